-- The pass for functions along tokens among which there is no `;` and no brace.
use Rattle.std.proofs.Common.{◌≡◌, ◌∙◌, ℕ, true, false, List, [], ◌∷◌, ◌++◌}
use Rattle.std.proofs.Common.{refl, sym, ap, subst, fold, ◌+◌, ◌-◌, ⊎_elim}
use Rattle.std.proofs.lemmas.Bool.{cases_Bool}
use Rattle.std.specs.Prelude.{◌&&◌, ◌||◌, ◌==◌, not, if◌then◌else◌}
use Rattle.std.specs.List.{AllByRecursion}
use Rattle.cb_scan.specs.declared.rules.wide.head.WideHead.{WideHead}
use Rattle.cb_scan.specs.declared.rules.wide.part.Part.{Part}
use Rattle.cb_scan.specs.declared.rules.wide.machine.WideMachine.{WideMachine}
use Rattle.cb_scan.specs.declared.rules.wide.token.WideToken.{WideToken}
use Rattle.cb_scan.specs.lex.Tokens.{is_mark}
use Rattle.cb_scan.specs.rules.Depth.{depth_after}
use Rattle.cb_scan.specs.rules.Typedefs.{nesting_after}
use Rattle.cb_scan.specs.rules.wide.Attributes.{ends_attribute}
use Rattle.cb_scan.specs.rules.wide.Bodies.{Body}
use Rattle.cb_scan.specs.rules.wide.Functions.{plain}
use Rattle.cb_scan.specs.rules.wide.Words.{is_sign}
use Rattle.cb_scan.specs.steps.Heads.{add}
use Rattle.cb_scan.specs.steps.wide.Ahead.{seen, up_to_mark}
use Rattle.cb_scan.specs.steps.wide.Declarations.{is_block}
use Rattle.cb_scan.specs.steps.wide.Functions.{found, opened, opened_from}
use Rattle.cb_scan.specs.steps.wide.Functions.{grown, headed, next, next_depth, stopped, stops}
use Rattle.cb_scan.specs.steps.wide.Heads.{declared, head_from, next_head}
use Rattle.cb_scan.specs.steps.wide.Parts.{part_start}
use Rattle.cb_scan.proofs.WideSeen.{part_seen}

-- a token that is no `;` and no brace
pub record IsInner (x : WideToken) : Type 0 where
  pub no_semicolon : is_sign 59 x.role ≡ false
  pub no_open : is_sign 123 x.role ≡ false
  pub no_close : is_sign 125 x.role ≡ false
  pub no_mark : is_mark 125 x.token.role ≡ false
  pub uncounted : x.counted ≡ false

-- it ends no attribute
pub ends_none : (x : WideToken) → IsInner x → ends_attribute x.role ≡ false
ends_none x inner = λ i. inner.no_semicolon i || inner.no_open i || inner.no_close i

-- ---- what is ahead

-- the head and the machine look no further than the next `;` or brace
pub head_seen : (h : WideHead) (x : WideToken) (xs : List WideToken)
    → next_head h (x ∷ xs) x ≡ next_head h (seen (x ∷ xs)) x
head_seen h x xs =
    let with : Part → WideHead = λ p.
    if h.count == 0 && is_sign 44 x.role
    then record {
      count = nesting_after x.token h.count;
      part = part_start false;
      found = declared h;
    }
    else record h { part = p; count = nesting_after x.token h.count } in
    ap with (part_seen h.part (h.count == 0) x xs)

pub machine_seen : (m : WideMachine) (x : WideToken) (xs : List WideToken)
    → next m (x ∷ xs) x ≡ next m (seen (x ∷ xs)) x
machine_seen m x xs =
    let with : WideHead → WideMachine = λ h.
    if stops m x then stopped m x
    else record (if m.depth == 0 then record m { head = add m.head x.token; parts = h } else m) {
      depth = next_depth m x;
    } in
    ap with (head_seen m.parts x xs)

-- a segment is all that is ahead in it
seen_all : (s : List WideToken) → AllByRecursion IsInner s → up_to_mark s ≡ s
seen_all [] all = refl
seen_all (x ∷ s) all =
    ap (λ b. if b then [] else x ∷ up_to_mark s) (ends_none x all.0)
    ∙ ap (λ l. x ∷ l) (seen_all s all.1)

module _ (q : WideToken) (rest : List WideToken) (last : ends_attribute q.role ≡ true) where
  seen_before : (s : List WideToken) → AllByRecursion IsInner s
      → up_to_mark (s ++ q ∷ rest) ≡ s
  seen_before [] all = ap (λ b. if b then [] else q ∷ up_to_mark rest) last
  seen_before (x ∷ s) all =
      ap (λ b. if b then [] else x ∷ up_to_mark (s ++ q ∷ rest)) (ends_none x all.0)
      ∙ ap (λ l. x ∷ l) (seen_before s all.1)

  -- the head reads no further than the segment
  head_same : (h : WideHead) (x : WideToken) (s : List WideToken) → AllByRecursion IsInner s
      → next_head h (x ∷ (s ++ q ∷ rest)) x ≡ next_head h (x ∷ s) x
  head_same h x s all =
      head_seen h x (s ++ q ∷ rest)
      ∙ ap (λ l. next_head h (x ∷ (if ends_attribute x.role then [] else l)) x)
      (seen_before s all ∙ sym (seen_all s all))
      ∙ sym (head_seen h x s)

-- ---- the machine

-- a token of the segment opens nothing
none_opened : (bs : List Body) (m : WideMachine) (x : WideToken) → IsInner x
    → opened bs m x ≡ []
none_opened bs m x inner =
    ap (λ c. if c && m.depth == 0 then found m (is_block bs x) ∷ [] else []) inner.uncounted

-- nor is the depth another after it
pub depth_inner : (d : ℕ) (x : WideToken) → IsInner x → depth_after x.counted x.token d ≡ d
depth_inner d x inner =
    (λ i. if inner.uncounted i then d + 1
    else (if inner.no_mark i then (if x.token.starts_line then 0 else d - 1) else d))

-- it is of the head at depth 0
pub next_inner : (m : WideMachine) (xs : List WideToken) (x : WideToken) → IsInner x
    → next m xs x ≡ (if m.depth == 0 then headed m xs x else m)
next_inner m xs x inner =
    let no_stop : stops m x ≡ false =
    (λ i. (inner.no_semicolon i && m.depth == 0)
    || (inner.no_close i && next_depth m x == 0)
    || (inner.no_open i && not x.counted)) in
    (λ i. if no_stop i then stopped m x
    else record (if m.depth == 0 then headed m xs x else m) {
      depth = depth_inner m.depth x inner i;
    })
    ∙ elim (m.depth == 0) as (λ b. record (if b then headed m xs x else m) { depth = m.depth }
    ≡ (if b then headed m xs x else m)) [ true ↦ refl | false ↦ refl ]

-- the state after a segment of the head
abbrev pub headed_all : WideMachine → List WideToken → WideMachine
headed_all m s = record m { head = fold add m.head (plain s); parts = head_from m.parts s }

-- the state after a segment
abbrev pub after : WideMachine → List WideToken → WideMachine
after m s = if m.depth == 0 then headed_all m s else m

-- the depth after any token
pub depth_next_is : (m : WideMachine) (xs : List WideToken) (x : WideToken)
    → (next m xs x).depth ≡ next_depth m x
depth_next_is m xs x = elim (stops m x) as
    (λ b. (if b then stopped m x else grown m xs x).depth ≡ next_depth m x)
    [ true ↦ refl | false ↦ refl ]

-- after a segment it is as before
pub after_depth : (m : WideMachine) (s : List WideToken) → (after m s).depth ≡ m.depth
after_depth m s = elim (m.depth == 0) as
    (λ b. (if b then headed_all m s else m).depth ≡ m.depth) [ true ↦ refl | false ↦ refl ]

-- a pass to which the tokens of a segment add nothing, at depths of some kind
module _ {X : Type 0} (pass : WideMachine → List WideToken → X) (Fine : ℕ → Type 0)
    (empty : X) (at_end : (m : WideMachine) → pass m [] ≡ empty)
    (step : (m : WideMachine) (x : WideToken) (xs : List WideToken) → IsInner x → Fine m.depth
    → pass m (x ∷ xs) ≡ pass (next m (x ∷ xs) x) xs) where
  -- along a segment that is the last
  pub to_end : (m : WideMachine) (s : List WideToken) → AllByRecursion IsInner s → Fine m.depth
      → pass m s ≡ empty
  to_end m [] all fine = at_end m
  to_end m (x ∷ s) all fine =
      step m x s all.0 fine
      ∙ to_end (next m (x ∷ s) x) s all.1
      (subst Fine (sym (depth_next_is m (x ∷ s) x ∙ depth_inner m.depth x all.0)) fine)

  -- along a segment up to its end
  module _ (q : WideToken) (rest : List WideToken) (last : ends_attribute q.role ≡ true) where
    deep : (m : WideMachine) (s : List WideToken) → AllByRecursion IsInner s → Fine m.depth
        → (m.depth == 0) ≡ false → pass m (s ++ q ∷ rest) ≡ pass m (q ∷ rest)
    deep m [] all fine isnt = refl
    deep m (x ∷ s) all fine isnt =
        let xs = s ++ q ∷ rest in
        step m x xs all.0 fine
        ∙ ap (λ n. pass n xs) (next_inner m (x ∷ xs) x all.0
        ∙ ap (λ b. if b then headed m (x ∷ xs) x else m) isnt)
        ∙ deep m s all.1 fine isnt

    flat : (m : WideMachine) (s : List WideToken) → AllByRecursion IsInner s → Fine m.depth
        → (m.depth == 0) ≡ true → pass m (s ++ q ∷ rest) ≡ pass (headed_all m s) (q ∷ rest)
    unfolding head_from
    flat m [] all fine is = refl
    flat m (x ∷ s) all fine is =
        let xs = s ++ q ∷ rest in
        step m x xs all.0 fine
        ∙ ap (λ n. pass n xs) (next_inner m (x ∷ xs) x all.0
        ∙ ap (λ b. if b then headed m (x ∷ xs) x else m) is
        ∙ ap (λ h. record m { head = add m.head x.token; parts = h })
        (head_same q rest last m.parts x s all.1))
        ∙ flat (headed m (x ∷ s) x) s all.1 fine is

    pub to_mark : (m : WideMachine) (s : List WideToken) → AllByRecursion IsInner s
        → Fine m.depth → pass m (s ++ q ∷ rest) ≡ pass (after m s) (q ∷ rest)
    to_mark m s all fine =
        ⊎_elim
        (λ is. flat m s all fine is
        ∙ ap (λ b. pass (if b then headed_all m s else m) (q ∷ rest)) (sym is))
        (λ isnt. deep m s all fine isnt
        ∙ ap (λ b. pass (if b then headed_all m s else m) (q ∷ rest)) (sym isnt))
        (cases_Bool (m.depth == 0))

-- a segment opens nothing
module _ (bs : List Body) where
  pub opens_nothing : (m : WideMachine) (x : WideToken) (xs : List WideToken) → IsInner x
      → Unit {0} → opened_from bs m (x ∷ xs) ≡ opened_from bs (next m (x ∷ xs) x) xs
  unfolding opened_from
  opens_nothing m x xs inner fine =
      ap (λ l. l ++ opened_from bs (next m (x ∷ xs) x) xs) (none_opened bs m x inner)

  opens_none_at_end : (m : WideMachine) → opened_from bs m [] ≡ []
  unfolding opened_from
  opens_none_at_end m = refl

  pub none_in : (m : WideMachine) (s : List WideToken) → AllByRecursion IsInner s
      → opened_from bs m s ≡ []
  none_in m s all =
      to_end (opened_from bs) (λ d. Unit {0}) [] opens_none_at_end opens_nothing m s all tt

  pub along : (q : WideToken) (rest : List WideToken) → ends_attribute q.role ≡ true
      → (m : WideMachine) (s : List WideToken) → AllByRecursion IsInner s
      → opened_from bs m (s ++ q ∷ rest) ≡ opened_from bs (after m s) (q ∷ rest)
  along q rest last m s all =
      to_mark (opened_from bs) (λ d. Unit {0}) [] opens_none_at_end opens_nothing q rest last m s
      all tt
