-- Request A1, the value of 70E behind `//DTCY`: what a narrative means.
use Prim.Native.String.{String}
use Rattle.std.specs.Prelude.{◌≡◌, Bool, true, false, List, [], ◌∷◌, map, Option, Some, None}
use Rattle.text.specs.Bytes.{bytes}
use Rattle.text.specs.Texts.{text_of}
use Rattle.forms.specs.Pool.{has_cdr}
use Rattle.pool_trade.specs.Narrative.{delivery_of, reason_of}
use Rattle.calendar.specs.declared.Date.{Date}

-- a narrative, whether it has CDRY, its delivery date and its reason
unfoldable pub told : List (String × Bool × Option Date × String)
told =
    ("/TDSVPOOL", false, None, "")
    ∷ ("/TDSVPOOL/CDRY", true, None, "")
    ∷ ("/TDSVPOOL/DDTE20240313", false, Some (record { 0 = 20240313 }), "")
    ∷ ("/TDSVPOOL/DKRSE004", false, None, "E004")
    ∷ ("/TDSVPOOL/CDRY/DDTE00010101", true, Some (record { 0 = 10101 }), "")
    ∷ ("/TDSVPOOL/CDRY/DKRSE004", true, None, "E004")
    ∷ ("/TDSVPOOL/DDTE20240313/DKRSE004", false, Some (record { 0 = 20240313 }), "E004")
    ∷ ("/TDSVPOOL/CDRY/DDTE20240313/DKRSE004", true, Some (record { 0 = 20240313 }), "E004")
    ∷ []

-- each text means what stands beside it
pub record Answered : Type 0 where
  pub cdrs : map (λ row. has_cdr (bytes row.0)) told ≡ map (λ row. row.1) told
  pub deliveries : map (λ row. delivery_of (bytes row.0)) told ≡ map (λ row. row.2) told
  pub reasons : map (λ row. reason_of (bytes row.0)) told ≡ map (λ row. text_of (bytes row.3)) told
