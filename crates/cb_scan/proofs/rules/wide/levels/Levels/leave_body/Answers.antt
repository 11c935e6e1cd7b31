-- After a body come the blocks around it, and then the body that is popped.
use Rattle.std.proofs.Common.{◌≡◌, ◌∙◌, ℕ, zero, suc, List, [], ◌∷◌, ◌++◌, Option, None, Some, ap}
use Rattle.std.proofs.Common.{arith, drop, false, length, refl, subst, sym, ◌+◌}
use Rattle.std.proofs.lemmas.Bool.{false≢true}
use Rattle.std.proofs.lemmas.List.{reverse-append}
use Rattle.std.specs.Prelude.{replicate}
use Rattle.std.specs.List.{flat_map}
use Rattle.std.specs.Option.{MatchOption, option_to_list}
use Rattle.std.specs.Vec.{vec_len}
use Rattle.cb_scan.specs.declared.rules.wide.level.Level.{Level}
use Rattle.cb_scan.specs.declared.rules.wide.level.Level.TheVariants.{Block}
use Rattle.cb_scan.specs.declared.rules.wide.levels.Body.{Body}
use Rattle.cb_scan.specs.steps.wide.Contents.{are_in_block, bodies_of, levels_in, levels_of}
use Rattle.cb_scan.proofs.rules.wide.levels.Levels.leave_body.Goals as goal

no_block : (n : ℕ) (ls : List Level) → are_in_block (replicate n Block ++ ls) ≡ false → n ≡ 0
no_block zero ls e = refl
no_block (suc n) ls e = absurd (false≢true (sym e))

without_body : (b : Body) (popped : Option Body) (rest : List Body)
    → (popped ≡ None → length rest ≡ 0)
    → levels_of b.blocks popped rest ≡ drop 1 (bodies_of (Some b) (rest ++ option_to_list popped))
without_body b (Some c) rest last =
    ap (λ l. replicate b.blocks Block ++ flat_map levels_in l) (sym (reverse-append rest (c ∷ [])))
without_body b None [] last = refl
without_body b None (r ∷ rest) last =
    let some : suc (length rest) ≡ 0 = last refl in absurd (omega arith)

pub returns-in-Some : goal.returns-in-Some
returns-in-Some c =
    let i = c.self.inside in
    let p = c.pop-self-inside in
    let rest = p.new.self.items in
    let around = i.around.items in
    let body = c.in-Some.body in
    let none =
    no_block i.blocks (bodies_of i.first around) (ap are_in_block c.self.view_is ∙ c.requires) in
    let last : p.result ≡ None → length rest ≡ 0 =
    λ e.
    let none_left : vec_len p.new.self ≡ 0 =
    (subst (λ o. MatchOption o ((vec_len i.around ≡ 0) × (vec_len p.new.self ≡ 0))
    (λ x. vec_len p.new.self + 1 ≡ vec_len i.around)) e p.ensures.cases).1 in
    omega (arith, none_left) in
    without_body body p.result rest last
    ∙ ap (λ l. drop 1 (bodies_of (Some body) l)) (sym p.ensures.items)
    ∙ ap (λ o. drop 1 (bodies_of o around)) (sym c.in-Some.is)
    ∙ ap (λ n. drop 1 (replicate n Block ++ bodies_of i.first around)) (sym none)
    ∙ ap (drop 1) c.self.view_is
