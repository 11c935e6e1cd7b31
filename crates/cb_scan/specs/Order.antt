-- Facts in the order of their places.
use Rattle.std.specs.Prelude.{◌≡◌, ◌⊎◌, ◌<◌, ◌≤◌, ℕ, Bool, not, List, [], ◌∷◌, Option}
use Rattle.std.specs.Prelude.{Some, None, if◌then◌else◌}
use Rattle.std.specs.List.{AllByRecursion}
use Rattle.std.specs.Cmp.Lexicographic.{slice_cmp}
use Rattle.std.specs.Ordering.{nat_cmp, is_gt}
use Rattle.cb_scan.specs.declared.facts.Call.{Call}
use Rattle.cb_scan.specs.declared.facts.Def.{Def}
use Rattle.cb_scan.specs.declared.facts.Include.{Include}
use Rattle.cb_scan.specs.declared.facts.Kind.{Kind}
use Rattle.cb_scan.specs.declared.facts.Kind.TheVariants.{Enum, Enumerator, External, Function}
use Rattle.cb_scan.specs.declared.facts.Kind.TheVariants.{Macro, Member, Prototype, Struct, Typedef}
use Rattle.cb_scan.specs.declared.facts.Kind.TheVariants.{Union, Variable}
use Rattle.cb_scan.specs.declared.facts.Tag.{Tag}
use Rattle.cb_scan.specs.declared.facts.Use.{Use}
use Rattle.cb_scan.specs.TextFacts.{TextFacts}

-- keys are compared number by number
abbrev pub goes_first : {X : Type 0} → (X → List ℕ) → X → X → Bool
goes_first key x y = not (is_gt (slice_cmp nat_cmp (key x) (key y)))

-- an element put before the first that does not go before it
unfoldable pub put : {X : Type 0} → (X → List ℕ) → X → List X → List X
put key x [] = x ∷ []
put key x (y ∷ ys) = if goes_first key x y then x ∷ y ∷ ys else y ∷ put key x ys

-- the elements in the order of their keys
unfoldable pub in_order : {X : Type 0} → (X → List ℕ) → List X → List X
in_order key [] = []
in_order key (x ∷ xs) = put key x (in_order key xs)

-- the kinds at one place go in this order
abbrev pub kind_rank : Kind → ℕ
kind_rank Function = 0
kind_rank Macro = 1
kind_rank Typedef = 2
kind_rank Struct = 3
kind_rank Union = 4
kind_rank Enum = 5
kind_rank Enumerator = 6
kind_rank Member = 7
kind_rank Variable = 8
kind_rank External = 9
kind_rank Prototype = 10

-- a tag in numbers: whether there is one, and which
abbrev pub tag_key : Option Tag → List ℕ
tag_key None = 0 ∷ 0 ∷ 0 ∷ 0 ∷ []
tag_key (Some tag) = 1 ∷ kind_rank tag.kind ∷ tag.name.start ∷ tag.name.end ∷ []

-- definitions go by place, and at one place by kind; what is left of them makes no two equal in
-- order
abbrev pub def_key : Def → List ℕ
def_key d =
    d.name.start ∷ kind_rank d.kind ∷ d.name.end ∷ d.line ∷ (if d.local then 1 else 0)
    ∷ tag_key d.tag

-- calls go by place; what is left of them makes no two equal in order
abbrev pub call_key : Call → List ℕ
call_key c = c.callee.start ∷ c.callee.end ∷ c.line ∷ c.caller.start ∷ c.caller.end ∷ []

-- ---- what order means

-- each element is related to all after it
unfoldable pub AreOrdered : {X : Type 0} → (X → X → Type 0) → List X → Type 0
AreOrdered R [] = Unit {0}
AreOrdered R (x ∷ xs) = AllByRecursion (R x) xs × AreOrdered R xs

-- a definition goes before another: its name begins before, or both at one place and its kind comes
-- no later
abbrev pub IsDefBefore : Def → Def → Type 0
IsDefBefore d e = (d.name.start < e.name.start)
    ⊎ ((d.name.start ≡ e.name.start) × (kind_rank d.kind ≤ kind_rank e.kind))

-- the facts are in order: definitions by place and then by kind; uses, calls and includes by place
pub record AreInOrder (f : TextFacts) : Type 0 where
  pub defs : AreOrdered IsDefBefore f.defs
  pub uses : AreOrdered (λ (u v : Use). u.name.start ≤ v.name.start) f.uses
  pub calls : AreOrdered (λ (c d : Call). c.callee.start ≤ d.callee.start) f.calls
  pub includes : AreOrdered (λ (i j : Include). i.header.start ≤ j.header.start) f.includes
