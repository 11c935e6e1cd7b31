-- The pass over the bare tokens looks at five tokens at most.
use Rattle.std.proofs.Common.{◌≡◌, Bool, true, false, List, [], ◌∷◌, ◌++◌, Option, None, Some}
use Rattle.std.proofs.Common.{refl, ap}
use Rattle.std.specs.Prelude.{◌&&◌, ◌||◌, ◌==◌, if◌then◌else◌}
use Rattle.std.specs.Option.{is_some}
use Rattle.std.specs.List.{flat_map}
use Rattle.cb_scan.specs.declared.rules.wide.called.Calls.{Calls}
use Rattle.cb_scan.specs.declared.rules.wide.called.Enclosed.{Enclosed}
use Rattle.cb_scan.specs.declared.rules.wide.declaration.Declaration.{Declaration}
use Rattle.cb_scan.specs.declared.facts.Def.{Def}
use Rattle.cb_scan.specs.declared.rules.wide.head.WideHead.{WideHead}
use Rattle.cb_scan.specs.declared.rules.wide.level.Level.{Level}
use Rattle.cb_scan.specs.declared.rules.wide.level.Level.TheVariants.{Block, Enumerators, Members}
use Rattle.cb_scan.specs.declared.rules.wide.machine.WideMachine.{WideMachine}
use Rattle.cb_scan.specs.declared.rules.wide.opening.Opening.{Opening}
use Rattle.cb_scan.specs.declared.rules.wide.part.Part.{Part}
use Rattle.cb_scan.specs.declared.rules.wide.pass.Pass.{Pass}
use Rattle.cb_scan.specs.declared.rules.wide.pointer.Pointer.{Pointer}
use Rattle.cb_scan.specs.declared.rules.wide.pointer.Pointer.TheVariants.{Found, Nothing, Sought}
use Rattle.cb_scan.specs.declared.rules.wide.tail.Tail.{Tail}
use Rattle.cb_scan.specs.declared.rules.wide.token.WideToken.{WideToken}
use Rattle.cb_scan.specs.rules.Typedefs.{nesting_after}
use Rattle.cb_scan.specs.rules.wide.Words.{is_sign}
use Rattle.cb_scan.specs.steps.Heads.{add}
use Rattle.cb_scan.specs.steps.wide.Called.{after_enclosed, enclosed_start, next_calls}
use Rattle.cb_scan.specs.steps.wide.Contents.{closed_by, defined_by, level_out, next_level}
use Rattle.cb_scan.specs.steps.wide.Contents.{next_levels, tag_inside}
use Rattle.cb_scan.specs.steps.wide.Declarations.{before_in_file, closes, ends_part, grown}
use Rattle.cb_scan.specs.steps.wide.Declarations.{next_in_file, next_member, next_part_of, noted}
use Rattle.cb_scan.specs.steps.wide.Functions.{next, next_depth, stopped, stops}
use Rattle.cb_scan.specs.steps.wide.Heads.{declared, next_head}
use Rattle.cb_scan.specs.steps.wide.Levels.{opened}
use Rattle.cb_scan.specs.steps.wide.Givens.{typedef_given}
use Rattle.cb_scan.specs.steps.wide.Lists.{Lists}
use Rattle.cb_scan.specs.steps.wide.Openings.{tag_out}
use Rattle.cb_scan.specs.steps.wide.Parts.{begins_value, is_stray, next_part, part_start}
use Rattle.cb_scan.specs.steps.wide.Pass.{is_block, next_lists, next_of_file, next_pass, parts_here}
use Rattle.cb_scan.specs.steps.wide.Pointers.{next_pointer}
use Rattle.cb_scan.specs.steps.wide.Tails.{next_tail}

-- five tokens, some more, and whatever follows
module _ (a b c d e : WideToken) (s more : List WideToken) where
  abbrev short : List WideToken
  short = a ∷ b ∷ c ∷ d ∷ e ∷ s

  abbrev long : List WideToken
  long = a ∷ b ∷ c ∷ d ∷ e ∷ (s ++ more)

  -- ---- a part
  enclosed_five : (n : Option Enclosed) → after_enclosed n long a ≡ after_enclosed n short a
  enclosed_five None = refl
  enclosed_five (Some n) = refl

  calls_five : (k : Calls) (o : Bool) → next_calls k o long a ≡ next_calls k o short a
  calls_five k o =
      ap (λ n. if is_some k.found then k
      else (if o && is_sign 40 a.role then record { enclosed = Some enclosed_start; found = None }
      else n)) (enclosed_five k.enclosed)

  pointer_five : (p : Pointer) (o : Bool) → next_pointer p o long a ≡ next_pointer p o short a
  pointer_five Nothing o = refl
  pointer_five Sought o = refl
  pointer_five (Found name called) o = refl

  tail_five : (t : Tail) (o : Bool) → next_tail t o long a ≡ next_tail t o short a
  tail_five t o = refl

  part_five : (p : Part) (o : Bool) → next_part p o long a ≡ next_part p o short a
  part_five p o =
      λ i. if p.has_value then p
      else (if begins_value o a then record p { has_value = true } else record p {
        calls = calls_five p.calls o i;
        pointer = pointer_five p.pointer o i;
        tail = tail_five p.tail o i;
        is_stray = p.is_stray || is_stray o a;
      })

  -- ---- what is made of parts
  head_five : (h : WideHead) → next_head h long a ≡ next_head h short a
  head_five h =
      let n = nesting_after a.token h.count in
      let with : Part → WideHead = λ p.
      if h.count == 0 && is_sign 44 a.role
      then record { count = n; part = part_start false; found = declared h }
      else record h { part = p; count = n } in
      ap with (part_five h.part (h.count == 0))

  pub machine_five : (m : WideMachine) → next m long a ≡ next m short a
  machine_five m =
      let with : WideHead → WideMachine = λ h.
      if stops m a then stopped m a
      else record (if m.depth == 0 then record m { head = add m.head a.token; parts = h } else m) {
        depth = next_depth m a;
      } in
      ap with (head_five m.parts)

  declaration_five : (g : Declaration) → grown g long a ≡ grown g short a
  declaration_five g =
      let with : Part → Declaration = λ p. record (if g.count == 0 then noted g a else g) {
        part = p;
        closes = closes a;
        count = nesting_after a.token g.count;
      } in
      ap with (part_five g.part (g.count == 0))

  of_file_five : (g : Declaration) (block : Bool)
      → next_of_file g block long a ≡ next_of_file g block short a
  of_file_five g block =
      ap (λ n. next_in_file (if ends_part g a then next_part_of g a else n) block a)
      (declaration_five g)

  -- ---- levels
  level_five : (l : Level) → next_level l long a ≡ next_level l short a
  level_five (Members tag g) =
      ap (λ n. Members tag (if ends_part g a then next_member g a else n)) (declaration_five g)
  level_five (Enumerators tag g) = refl
  level_five Block = refl

  levels_five : (o : Option Opening) (ls : List Level)
      → next_levels o ls long a ≡ next_levels o ls short a
  levels_five o [] = refl
  levels_five o (l ∷ ls) =
      ap (λ m. if a.counted then opened o (tag_inside (l ∷ ls)) ∷ m ∷ ls
      else (if is_sign 125 a.role then closed_by a (l ∷ ls) else m ∷ ls)) (level_five l)

  out_five : (l : Level) → level_out l long a ≡ level_out l short a
  out_five (Members tag g) = refl
  out_five (Enumerators tag g) = refl
  out_five Block = refl

  defined_five : (ls : List Level) → defined_by ls long a ≡ defined_by ls short a
  defined_five [] = refl
  defined_five (l ∷ ls) = ap (λ ds. if is_sign 125 a.role then [] else ds) (out_five l)

  -- ---- the pass
  pub pass_five : (p : Pass) → next_pass p long a ≡ next_pass p short a
  pass_five p = λ i. record (next_pass p long a) {
    machine = machine_five p.machine i;
    file = if p.machine.depth == 0
        then of_file_five (before_in_file p.file a) (is_block p a) i else p.file;
    levels = levels_five p.opening p.levels i;
  }

  pub lists_five : (l : Lists) (p : Pass) → next_lists l p long a ≡ next_lists l p short a
  lists_five l p =
      let with : List Def → Lists = λ ds. record (next_lists l p long a) {
        defs = ((l.defs ++ flat_map typedef_given (parts_here p a)) ++ tag_out p.opening a) ++ ds;
      } in
      ap with (defined_five p.levels)
