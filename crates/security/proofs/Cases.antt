-- Each row of the tables says what its definitions compute to.
-- Assumes nothing.
use mathlib.Core.Path.{refl}
use Rattle.text.specs.Bytes.{bytes}
use Rattle.text.specs.Classes.{is_between, is_digit, is_upper, is_c, in_class, all_in, is_code}
use Rattle.security.specs.Security.{worth, weighed, adds, sum_from, is_checked, security_number, check_digit}
use Rattle.security.specs.Cases.{cases, adds_from, sums, Answered}

pub answered : Answered
unfolding cases adds_from sums bytes is_between is_digit is_upper is_c in_class all_in is_code worth weighed adds sum_from is_checked security_number check_digit
answered = record { numbers = refl; added = refl; digits = refl }
