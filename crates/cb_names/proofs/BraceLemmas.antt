-- What a `{` opens follows from what the bracket around it opens.
use Rattle.std.proofs.Common.{◌≡◌, ◌∙◌, ◌+◌, ℕ, Bool, true, false, List, Option, Some, None, refl}
use Rattle.std.proofs.Common.{sym, ap, add-one}
use Rattle.std.specs.Prelude.{◌&&◌, cond}
use Rattle.cb_names.specs.declared.braces.Brace.{Brace}
use Rattle.cb_names.specs.declared.braces.Brace.TheVariants.{Other}
use Rattle.cb_names.specs.declared.word.Item.{Item}
use Rattle.cb_names.specs.Braces.{follows_keyword, is_value, kind_at, kind_by, kind_in}
use Rattle.cb_names.specs.Pairs.{innermost, is_at, opened}
use Rattle.cb_names.specs.Tables.{IsTable}
use Rattle.cb_names.specs.steps.Opening.{is_in_value, keyword_after}
use Rattle.cb_names.proofs.BracketLemmas.{no_top, top_is}

module _ (xs : List Item) (b : ℕ) where
  value_of : (brace : Bool) (kind : Brace) → is_value (cond brace kind Other) ≡ (brace && is_value kind)
  value_of true kind = refl
  value_of false kind = refl

  by : (k : ℕ) (kinds : List Brace) → IsTable (kind_at xs b) k kinds → (o : Option ℕ) → innermost xs k ≡ o
      → kind_by xs b k (is_in_value kinds o) ≡ kind_in xs b k (opened xs k)
  unfolding kind_in
  by k kinds t None is = ap (kind_in xs b k) (sym (no_top xs k is))
  by k kinds t (Some j) is =
      let top = top_is xs k j is in
      ap (λ v. kind_by xs b k (is_value v)) (t.at j Other top.less)
      ∙ ap (kind_by xs b k) (value_of (is_at 123 xs j) (kind_in xs b j (opened xs j)))
      ∙ ap (kind_in xs b k) (sym top.all)

  pub kind_is : (k : ℕ) (kinds : List Brace) → IsTable (kind_at xs b) k kinds → (o : Option ℕ) → o ≡ innermost xs k
      → is_at 123 xs k ≡ true → kind_by xs b k (is_in_value kinds o) ≡ kind_at xs b k
  kind_is k kinds t o o_is is =
      by k kinds t o (sym o_is)
      ∙ sym (ap (λ c. cond c (kind_in xs b k (opened xs k)) Other) is)

  pub keyword_more : (k : ℕ) (keyword : Bool) → keyword ≡ follows_keyword xs k
      → keyword_after xs k keyword ≡ follows_keyword xs (k + 1)
  unfolding follows_keyword
  keyword_more k keyword is = ap (keyword_after xs k) is ∙ ap (follows_keyword xs) (sym (add-one k))
