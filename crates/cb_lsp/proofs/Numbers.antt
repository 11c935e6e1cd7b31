-- Numbers of JSON.
use Rattle.std.proofs.Common.{◌≡◌, ◌<◌, ◌^◌, ℕ, List, Bool, true, false, length, refl, ap}
use Rattle.std.proofs.Common.{Option, Some, None, MatchOption}
use Rattle.std.proofs.lemmas.Bool.Decides.{Decides-and, Decides-ltb}
use Rattle.std.proofs.lemmas.Str.Parse.{IsNumeralModel, numerals_by_value, tells_all_ascii_digits}
use Rattle.std.specs.Bool.{Decides}
use Rattle.std.specs.Option.{ok_or}
use Rattle.std.specs.Result.{OkIff}
use Rattle.std.specs.Str.{all_ascii_digits}
use Rattle.std.specs.Str.Parse.{IsNumeral, ParsesUnsigned, digits_value, without_leading_plus}
use Rattle.json.specs.Find.{as_number}
use Rattle.json.specs.Json.{Json, null, boolean, number, string, array, object}
use Rattle.cb_lsp.specs.Params.{are_digits, natural_of, number_in}

model : IsNumeralModel (λ ds. all_ascii_digits ds ≡ true) (digits_value 10)
model = numerals_by_value _ tells_all_ascii_digits

are_digits-Decides : (ds : List ℕ)
    → Decides (are_digits ds) (IsNumeral 10 ds × (digits_value 10 ds < 2 ^ 64))
are_digits-Decides ds =
    Decides-and _ _ (Decides-and _ _ (Decides-ltb 0 (length ds)) (model.to ds, model.from ds))
    (Decides-ltb (digits_value 10 ds) (2 ^ 64))

false_from : (b : Bool) → ¬ (b ≡ true) → b ≡ false
false_from true never = absurd (never refl)
false_from false never = refl

natural : (r : Option ℕ) (s ds : List ℕ)
    → OkIff (ok_or r s) (IsNumeral 10 ds × (digits_value 10 ds < 2 ^ 64)) (digits_value 10 ds)
    → r ≡ natural_of ds
natural None s ds h =
    rw (false_from (are_digits ds) (λ e. h ((are_digits-Decides ds).0 e)))
natural (Some n) s ds h = rw ((are_digits-Decides ds).1 h.0) (ap Some h.1)

-- what is parsed is the number of the digits
parsed-natural : (r : Option ℕ) (s : List ℕ) → ParsesUnsigned 64 10 s (ok_or r s)
    → r ≡ natural_of (without_leading_plus s)
parsed-natural r s parses = natural r s (without_leading_plus s) parses

-- the number of a value is what is parsed of it, if it is a number
pub parsed-number : (v : Json) (r : Option ℕ)
    → MatchOption (as_number v) (r ≡ None) (λ s. ParsesUnsigned 64 10 s (ok_or r s))
    → r ≡ number_in (Some v)
parsed-number null r h = h
parsed-number (boolean b) r h = h
parsed-number (number s) r h = parsed-natural r s h
parsed-number (string s) r h = h
parsed-number (array js) r h = h
parsed-number (object ms) r h = h
