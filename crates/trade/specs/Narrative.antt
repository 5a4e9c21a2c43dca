-- Document 01, the value of 70E behind `//GSCC`: what it means. The first of the words, and no period, where it is none.
use Rattle.std.specs.Prelude.{ℕ, ◌-◌, cond, List, [], ◌∷◌, get_or, Option, Some, None}
use Rattle.forms.specs.Forms.{word_at}
use Rattle.forms.specs.Narrative.{services, service_in, has_period, period_in}
use Rattle.trade.specs.declared.Service.{Service}

unfoldable pub service_of : List ℕ → Service
service_of v = get_or (Service.Sbod ∷ Service.Tftd ∷ Service.Stip ∷ []) (word_at services (service_in v)) Service.Sbod

unfoldable pub period_of : List ℕ → Option ℕ
period_of v = cond (has_period v) (Some (period_in v - 48)) None
