-- Document 01, "What the desk program prints": the heading and the two rows of its sample, and the row of a record in which
-- MAST, buyer and seller are absent.
use Rattle.std.specs.Prelude.{◌≡◌}
use Rattle.text.specs.Bytes.{bytes}
use Rattle.trade.specs.Records.{blank_trade}
use Rattle.values.specs.Cases.{b as trade_of_b}
use Rattle.listing.specs.Rows.{heading, printed_row}

-- B is accepted with its record; `X` and `-` get 4 at line 2, beside the blank record
abbrev pub Answered : Type 0
Answered =
    (heading ≡ bytes "MSG CODE LINE KIND MAST BUYR SELL\n")
    × (printed_row 1 (record { number = 0; line = 0; held = trade_of_b }) ≡ bytes "1 0 0 INST 0017 0017 0015\n")
    × (printed_row 2 (record { number = 4; line = 2; held = blank_trade }) ≡ bytes "2 4 2 - - - -\n")
    × (printed_row 32768 (record { number = 0; line = 0; held = blank_trade }) ≡ bytes "32768 0 0 INST - - -\n")
