-- The heading; the row of R of request A3, "Worked cases", accepted with its record; of R with eleven REAS, which gets 22 at line 51 beside
-- the blank record; and of the blank record, of which every text is absent; and a status that has an issuer.
use Rattle.std.specs.Prelude.{◌≡◌}
use Rattle.text.specs.Bytes.{bytes}
use Rattle.answer.specs.Records.{blank_answer}
use Rattle.answer.specs.Cases.{r as answer_of_r}
use Rattle.answer_listing.specs.Rows.{heading, without_issuer, printed_row}

abbrev pub Answered : Type 0
Answered =
    (heading ≡ bytes "MSG CODE LINE STATUS MAST LIST RELA REASONS\n")
    × (printed_row 1 (record { number = 0; line = 0; held = answer_of_r }) ≡ bytes "1 0 0 IPRC/REJT 0017 000001-1306 0008 E001,E016\n")
    × (printed_row 2 (record { number = 22; line = 51; held = blank_answer }) ≡ bytes "2 22 51 - - - - -\n")
    × (printed_row 32768 (record { number = 0; line = 0; held = blank_answer }) ≡ bytes "32768 0 0 IPRC/PACK - - - -\n")
    × (without_issuer (bytes "IPRC/GSCC/MODA") ≡ bytes "IPRC/MODA")
