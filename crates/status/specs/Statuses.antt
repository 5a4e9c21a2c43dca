-- Request A3, "Slots": the thirty values of 25D, the qualifier with them, numbered from 0 in this order. A record holds the number.
use Rattle.std.specs.Prelude.{ℕ, Bool, cond, List, [], ◌∷◌, ltb, length, get_or}
use Rattle.text.specs.Bytes.{bytes}
use Rattle.forms.specs.Forms.{word_at, is_word}
use Rattle.status.specs.declared.Status.{Status}

unfoldable pub statuses : List (List ℕ)
statuses =
    bytes "IPRC//PACK"
    ∷ bytes "IPRC//REJT"
    ∷ bytes "IPRC/GSCC/MODA"
    ∷ bytes "IPRC/GSCC/MODP"
    ∷ bytes "IPRC/GSCC/PAMS"
    ∷ bytes "IPRC/GSCC/YPPR"
    ∷ bytes "IPRC/GSCC/PADK"
    ∷ bytes "IPRC/GSCC/DPPR"
    ∷ bytes "IPRC/GSCC/DELE"
    ∷ bytes "IPRC/GSCC/DEPS"
    ∷ bytes "IPRC/GSCC/DESA"
    ∷ bytes "IPRC/GSCC/TUNB"
    ∷ bytes "IPRC/GSCC/TBAL"
    ∷ bytes "IPRC/GSCC/DNAL"
    ∷ bytes "CPRC//PACK"
    ∷ bytes "CPRC//REJT"
    ∷ bytes "CPRC//CAND"
    ∷ bytes "CPRC/GSCC/PACS"
    ∷ bytes "CPRC/GSCC/XPPR"
    ∷ bytes "CPRC/GSCC/UPBP"
    ∷ bytes "CPRC/GSCC/UPBR"
    ∷ bytes "CPRC/GSCC/UPBC"
    ∷ bytes "CPRC/GSCC/VPBP"
    ∷ bytes "CPRC/GSCC/VPBR"
    ∷ bytes "CPRC/GSCC/VPBC"
    ∷ bytes "CPRC/GSCC/CDNA"
    ∷ bytes "MTCH//MACH"
    ∷ bytes "MTCH/GSCC/MAPL"
    ∷ bytes "MTCH/GSCC/MAPS"
    ∷ bytes "MTCH/GSCC/MAFM"
    ∷ []

-- the status that a value is; the first where it is none of them
unfoldable pub status_of : List ℕ → Status
status_of v = record { 0 = cond (is_word statuses v) (word_at statuses v) 0 }

-- its value; none where it is no number of theirs
unfoldable pub status_text : Status → List ℕ
status_text s = get_or statuses s.0 []

unfoldable pub status_form : Status → Bool
status_form s = ltb s.0 (length statuses)
