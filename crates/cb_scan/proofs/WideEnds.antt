-- A `;` in a block ends what a `{` would open, and nothing else.
use Rattle.std.proofs.Common.{◌≡◌, ◌∙◌, ℕ, Bool, true, false, List, [], ◌∷◌, Option, None, sym, ap}
use Rattle.std.proofs.lemmas.Bool.{eqb-true, false≢true}
use Rattle.std.specs.Prelude.{◌==◌, if◌then◌else◌}
use Rattle.cb_scan.specs.declared.lex.token.Role.{Role}
use Rattle.cb_scan.specs.declared.lex.token.Role.TheVariants.{Word, Mark, Str, Other}
use Rattle.cb_scan.specs.declared.lex.token.Token.{Token}
use Rattle.cb_scan.specs.declared.rules.wide.opening.Opening.{Opening}
use Rattle.cb_scan.specs.declared.rules.wide.reader.Reader.{Reader}
use Rattle.cb_scan.specs.lex.Tokens.{bytes_of, is_mark}
use Rattle.cb_scan.specs.rules.wide.Attributes.{ends_attribute}
use Rattle.cb_scan.specs.rules.wide.Words.{role_from}
use Rattle.cb_scan.specs.steps.wide.Contents.{are_in_block}
use Rattle.cb_scan.specs.steps.wide.Openings.{next_opening}
use Rattle.cb_scan.specs.steps.wide.Pass.{Taken, is_brace, take_first}
use Rattle.cb_scan.specs.steps.wide.Reading.{all_taken, item_of, opened_by, passed}
use Rattle.cb_scan.specs.steps.wide.Reading.{taken_after, taken_on}
use Rattle.cb_scan.specs.steps.wide.Sights.{sight_opening}
use Rattle.cb_scan.specs.steps.wide.Tokens.{token_after}
use Rattle.cb_scan.proofs.WideBlocks.{lists_in_block, pass_in_block}

pub mark_is : (b : ℕ) (r : Role) → is_mark b r ≡ true → r ≡ Mark b
mark_is b (Mark m) is = ap Mark (eqb-true m b is)
mark_is b (Word k) is = absurd (false≢true is)
mark_is b Str is = absurd (false≢true is)
mark_is b Other is = absurd (false≢true is)

module _ (text : List ℕ) (r : Reader) (t : Taken) (token : Token)
    (block : are_in_block t.pass.levels ≡ true)
    (semicolon : is_mark 59 token.role ≡ true)
    (below : (t.pass.machine.depth == 0) ≡ false) where
  -- what holds of the role of a `;` holds of that of the token
  of_role : (f : Role → Bool) → f token.role ≡ f (Mark 59)
  of_role f = ap f (mark_is 59 token.role semicolon)

  ends : ends_attribute (item_of text r token).role ≡ true
  ends = of_role (λ k. ends_attribute (role_from k (bytes_of text token.span)))

  other : is_brace (item_of text r token) ≡ false
  other = of_role (λ k. is_brace (record (item_of text r token) {
    token = record token { role = k };
    role = role_from k (bytes_of text token.span);
    counted = (token_after text r.before (record token { role = k })).counted;
  }))

  none_opens : (o : Option Opening) → next_opening o (item_of text r token) ≡ None
  none_opens o = ap (λ k. next_opening o (record (item_of text r token) {
    role = role_from k (bytes_of text token.span);
  })) (mark_is 59 token.role semicolon)

  pub taken_ended : record t { pass = record t.pass { opening = None } }
      ≡ taken_after text r t token
  taken_ended =
      let x = item_of text r token in
      let p = record t.pass { opening = sight_opening r.sight } in
      let taken : take_first (opened_by (sight_opening r.sight) t) (x ∷ []) x
      ≡ record t { pass = record t.pass { opening = None } } =
      (λ i. record {
        pass = pass_in_block p x (x ∷ []) other block below i;
        lists = lists_in_block p x (x ∷ []) other block below t.lists i;
      })
      ∙ ap (λ o. record t { pass = record t.pass { opening = o } }) (none_opens p.opening) in
      sym ((λ i. if ends i then take_first (all_taken (block i) (passed r token) t) (x ∷ []) x
      else taken_on (block i) (passed r token) t x) ∙ taken)
