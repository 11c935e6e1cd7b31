-- A token with which the head of a function and the declaration of the file go on together.
use Rattle.std.proofs.Common.{◌≡◌, ◌∙◌, Bool, true, false, List, [], ◌∷◌, None, sym, refl}
use Rattle.std.proofs.lemmas.Bool.{false≢true, or_parts}
use Rattle.std.specs.Prelude.{◌&&◌, ◌||◌, ◌==◌, not, if◌then◌else◌}
use Rattle.std.specs.Option.{is_none, option_map}
use Rattle.cb_scan.specs.declared.facts.Def.{Def}
use Rattle.cb_scan.specs.declared.rules.wide.declaration.Declaration.{Declaration}
use Rattle.cb_scan.specs.declared.rules.wide.machine.WideMachine.{WideMachine}
use Rattle.cb_scan.specs.declared.rules.wide.pass.Pass.{Pass}
use Rattle.cb_scan.specs.declared.rules.wide.token.WideToken.{WideToken}
use Rattle.cb_scan.specs.rules.Typedefs.{nesting_after}
use Rattle.cb_scan.specs.rules.wide.Words.{is_sign}
use Rattle.cb_scan.specs.steps.Heads.{add}
use Rattle.cb_scan.specs.steps.wide.Contents.{closed_by, first_goes_on, next_levels, tag_inside}
use Rattle.cb_scan.specs.steps.wide.Declarations.{declaration_start, grown}
use Rattle.cb_scan.specs.steps.wide.Declarations.{ends_part, is_end, is_over}
use Rattle.cb_scan.specs.steps.wide.Declarations.{next_in_file, next_part_of}
use Rattle.cb_scan.specs.steps.wide.Functions.{headed, next, next_depth, stopped, stops}
use Rattle.cb_scan.specs.steps.wide.Heads.{declared}
use Rattle.cb_scan.specs.steps.wide.Joint.{head_with, machine_beside, machine_with}
use Rattle.cb_scan.specs.steps.wide.Joint.{next_together, pass_with, stays_together, together_on}
use Rattle.cb_scan.specs.steps.wide.Levels.{opened}
use Rattle.cb_scan.specs.steps.wide.Openings.{next_opening}
use Rattle.cb_scan.specs.steps.wide.Parts.{function, next_part, part_start}
use Rattle.cb_scan.specs.steps.wide.Pass.{is_brace, is_in_file}
use Rattle.cb_scan.specs.steps.wide.Pass.{next_body, next_file, next_of_file, next_pass, part_at}
use Rattle.cb_scan.specs.steps.wide.Pass.{parts_here}
use Rattle.cb_scan.specs.steps.wide.Tails.{or_first}
use Rattle.cb_scan.proofs.WideOther.{no_close, no_function, no_open, same_depth, uncounted}

-- ---- what the test says

all_true : (a b c : Bool) → (a && not b && not c) ≡ true
    → (a ≡ true) × (b ≡ false) × (c ≡ false)
all_true true false false e = (refl, refl, refl)
all_true true false true e = absurd (false≢true e)
all_true true true c e = absurd (false≢true e)
all_true false b c e = absurd (false≢true e)

-- ---- the machine

or_none : (s b : Bool) → (s || false || (b && false)) ≡ s
or_none true true = refl
or_none true false = refl
or_none false true = refl
or_none false false = refl

and_all : (s : Bool) → ((s && true) || false || false) ≡ s
and_all true = refl
and_all false = refl

module _ (x : WideToken) (xs : List WideToken) (other : is_brace x ≡ false) where
  -- a `;` alone ends a declaration
  end_is : (e : Declaration) → is_end e false x ≡ is_sign 59 x.role
  end_is e =
      (λ i. is_sign 59 x.role || (no_open x other i && not x.counted)
      || (not e.has_equals && (no_close x other i || false)))
      ∙ or_none (is_sign 59 x.role) (not e.has_equals)

  module _ (d : Declaration) (m : WideMachine) (zero : (m.depth == 0) ≡ true) where
    -- and it alone is a stop
    stop_is : stops (machine_with true d m) x ≡ is_sign 59 x.role
    stop_is =
        (λ i. (is_sign 59 x.role && zero i)
        || (no_close x other i && next_depth m x == 0)
        || (no_open x other i && not x.counted))
        ∙ and_all (is_sign 59 x.role)

    -- the two, by whether the token is a `;`, and whether it is a comma that ends a part
    abbrev declaration_by : Bool → Bool → Declaration
    declaration_by s c =
        if s then declaration_start else (if s || c then next_part_of d x else grown d xs x)

    abbrev beside_by : Bool → Bool → WideMachine
    beside_by s c =
        if s then stopped m x
        else record m {
          head = add m.head x.token;
          parts = if c then record m.parts { found = or_first m.parts.found (function d.part) }
              else m.parts;
        }

    abbrev machine_by : Bool → Bool → WideMachine
    machine_by s c =
        if s then stopped (machine_with true d m) x
        else record m {
          head = add m.head x.token;
          parts = if c then record {
            count = nesting_after x.token d.count;
            part = part_start false;
            found = declared (head_with true d m.parts);
          }
              else record (head_with true d m.parts) {
                part = next_part d.part (d.count == 0) xs x;
                count = nesting_after x.token d.count;
              };
        }

    by_sign : (s c : Bool) → machine_with true (declaration_by s c) (beside_by s c) ≡ machine_by s c
    by_sign true c = refl
    by_sign false true = refl
    by_sign false false = refl

    pub machine_joined
        : machine_with true (next_of_file d false xs x) (machine_beside d m x)
        ≡ next (machine_with true d m) xs x
    machine_joined =
        let s = is_sign 59 x.role in
        let c = d.count == 0 && is_sign 44 x.role in
        let open_ : Declaration = if s || c then next_part_of d x else grown d xs x in
        (λ i. machine_with true (if end_is open_ i then declaration_start else open_)
        (machine_beside d m x))
        ∙ by_sign s c
        ∙ sym (λ i. if stop_is i then stopped (machine_with true d m) x
        else record (if zero i then headed (machine_with true d m) xs x
        else machine_with true d m) { depth = same_depth x other m.depth i })

-- ---- the pass

module _ (p : Pass) (xs : List WideToken) (x : WideToken) (stays : stays_together p x ≡ true) where
  parts : (is_in_file p ≡ true) × (is_brace x ≡ false) × (is_over p.file x ≡ false)
  parts = all_true (is_in_file p) (is_brace x) (is_over p.file x) stays

  in_file : is_in_file p ≡ true
  in_file = parts.0

  pub no_brace : is_brace x ≡ false
  no_brace = parts.1

  begun : is_over p.file x ≡ false
  begun = parts.2

  file_is : next_file (pass_with true p) xs x ≡ next_of_file p.file false xs x
  file_is = λ i. if in_file i
      then next_of_file (if begun i then declaration_start else p.file)
      (uncounted x no_brace i && is_none p.opening) xs x
      else p.file

  body_is : next_body (pass_with true p) x ≡ None
  body_is = λ i. if in_file i
      then option_map (λ (d : Def). d.name) (no_function x no_brace (pass_with true p) i)
      else (if next_depth p.machine x == 0 then None else p.body)

  levels_are : next_levels p.opening p.levels xs x ≡ first_goes_on p.levels xs x
  levels_are = λ i. if uncounted x no_brace i
      then opened p.opening (tag_inside p.levels) ∷ first_goes_on p.levels xs x
      else (if no_close x no_brace i then closed_by x p.levels else first_goes_on p.levels xs x)

  pub pass_joined : pass_with true (next_together p xs x) ≡ next_pass (pass_with true p) xs x
  pass_joined = λ i. record {
    opening = next_opening p.opening x;
    machine = machine_joined x xs no_brace p.file p.machine in_file i;
    file = sym file_is i;
    body = sym body_is i;
    levels = sym levels_are i;
  }

  pub parts_joined : part_at p.file x ≡ parts_here (pass_with true p) x
  parts_joined = sym (λ i. if in_file i
      then part_at (if begun i then declaration_start else p.file) x else [])

  -- a token that ends no part
  module _ (goes : ends_part p.file x ≡ false) where
    no_semicolon : is_sign 59 x.role ≡ false
    no_semicolon = (or_parts (is_sign 59 x.role) (p.file.count == 0 && is_sign 44 x.role) goes).0

    no_comma : (p.file.count == 0 && is_sign 44 x.role) ≡ false
    no_comma = (or_parts (is_sign 59 x.role) (p.file.count == 0 && is_sign 44 x.role) goes).1

    machine_going : record p.machine { head = add p.machine.head x.token }
        ≡ machine_beside p.file p.machine x
    machine_going = sym (λ i. if no_semicolon i then stopped p.machine x
        else record p.machine {
          head = add p.machine.head x.token;
          parts = if no_comma i
              then record p.machine.parts {
                found = or_first p.machine.parts.found (function p.file.part);
              }
              else p.machine.parts;
        })

    file_going : grown p.file xs x ≡ next_of_file p.file false xs x
    file_going =
        let e = grown p.file xs x in
        sym ((λ i. next_in_file (if goes i then next_part_of p.file x else e) false x)
        ∙ (λ i. if (end_is x xs no_brace e ∙ no_semicolon) i then declaration_start else e))

    pub going_on
        : record p {
          machine = record p.machine { head = add p.machine.head x.token };
          file = grown p.file xs x;
        }
        ≡ together_on p xs x
    going_on = λ i. record p { machine = machine_going i; file = file_going i }
