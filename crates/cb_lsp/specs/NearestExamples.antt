-- Which definitions are shown, computed. The expected values are worked out by hand.
use Rattle.std.specs.Prelude.{◌≡◌, ◌||◌, ℕ, Bool, true, false, List, [], ◌∷◌, codes, None, Some}
use Rattle.std.specs.Prelude.{refl}
use Rattle.std.specs.Str.{bytes_eq}
use Rattle.cb_scan.specs.Order.{in_order, put}
use Rattle.cb_names.specs.declared.space.Space.TheVariants.{Called, Member, Plain}
use Rattle.cb_scan.specs.declared.facts.Kind.{Kind}
use Rattle.cb_scan.specs.declared.facts.Kind.TheVariants as kind
use Rattle.cb_tags.specs.TagLines.{Tag}
use Rattle.cb_lsp.specs.Nearest.{apart, is_private, kinds_at, shown}
use Rattle.cb_lsp.specs.declared.nearest.Kinds.TheVariants as kinds

abbrev in_file : (file : List ℕ) → Kind → (local : Bool) → Tag
in_file file kind local = record {
  name = codes "f";
  file = file;
  place = 0;
  line = 1;
  text = [];
  kind = kind;
  local = local;
  scope = None;
}

abbrev function_in_a : Tag
function_in_a = in_file (codes "x/a.c") kind.Function false

abbrev function_below_y : Tag
function_below_y = in_file (codes "x/y/b.c") kind.Function false

abbrev private_in_c : Tag
private_in_c = in_file (codes "x/c.c") kind.Function true

abbrev macro_in_d : Tag
macro_in_d = in_file (codes "x/d.c") kind.Macro false

abbrev member_in_h : Tag
member_in_h = in_file (codes "x/h.h") kind.Member false

abbrev prototype_in_h : Tag
prototype_in_h = in_file (codes "x/h.h") kind.Prototype false

abbrev pub macro_in_h : Tag
macro_in_h = in_file (codes "x/h.h") kind.Macro false

-- one folder, one below another, and none that is shared
pub together : apart (codes "x/a.c") (codes "x/b.c") ≡ 0
unfolding apart
together = refl

pub one_below : apart (codes "x/y/a.c") (codes "x/b.c") ≡ 1
unfolding apart
one_below = refl

pub apart_at_once : apart (codes "x/y/a.c") (codes "xy/b.c") ≡ 3
unfolding apart
apart_at_once = refl

-- closures: of a file alone, and of one that includes these two
abbrev pub alone : (from : List ℕ) → List ℕ → Bool
alone from name = bytes_eq name from

abbrev pub with_these : (from one other : List ℕ) → List ℕ → Bool
with_these from one other name = bytes_eq name from || bytes_eq name one || bytes_eq name other

-- what is shown in `x/y/z.c`, by its closure
abbrev pub in_z : (inside : List ℕ → Bool) → List Tag → List Tag
in_z inside ts = shown (codes "x/y/z.c") inside kinds.Ordinary false ts

abbrev pub z_alone : List ℕ → Bool
z_alone = alone (codes "x/y/z.c")

abbrev pub z_with_h : List ℕ → Bool
z_with_h = with_these (codes "x/y/z.c") (codes "x/h.h") (codes "x/h.h")

-- the nearest alone, whatever the order of names
pub nearest_alone : in_z z_alone (function_in_a ∷ function_below_y ∷ []) ≡ function_below_y ∷ []
unfolding apart in_order is_private put
nearest_alone = refl

-- a function comes before a macro that is not included
pub function_first : in_z z_alone (function_in_a ∷ macro_in_h ∷ []) ≡ function_in_a ∷ []
unfolding apart in_order is_private put
function_first = refl

-- a macro that is included, and behind it the function that it may stand for
pub included_first : in_z z_with_h (function_below_y ∷ macro_in_h ∷ [])
    ≡ macro_in_h ∷ function_below_y ∷ []
unfolding apart in_order is_private put
included_first = refl

-- an included file of functions is in view, with what is private to it
pub private_in_view : in_z (with_these (codes "x/y/z.c") (codes "x/c.c") (codes "x/c.c"))
    (function_in_a ∷ private_in_c ∷ []) ≡ private_in_c ∷ []
unfolding apart in_order is_private put
private_in_view = refl

-- its own alone; and what is private to others is not shown beside what is not
pub its_own : shown (codes "x/c.c") (alone (codes "x/c.c")) kinds.Ordinary false
    (function_in_a ∷ private_in_c ∷ []) ≡ private_in_c ∷ []
unfolding apart is_private
its_own = refl

pub not_of_others : in_z z_alone (function_in_a ∷ private_in_c ∷ macro_in_d ∷ [])
    ≡ function_in_a ∷ []
unfolding apart in_order is_private put
not_of_others = refl

-- a declaration beside a definition, and alone
pub no_declaration : shown (codes "x/h.h") (alone (codes "x/h.h")) kinds.All false
    (function_in_a ∷ prototype_in_h ∷ []) ≡ function_in_a ∷ []
unfolding apart in_order is_private put
no_declaration = refl

pub a_declaration : shown (codes "x/h.h") (alone (codes "x/h.h")) kinds.All false (prototype_in_h ∷ [])
    ≡ prototype_in_h ∷ []
unfolding is_private
a_declaration = refl

-- where declarations are asked for, they are shown before what they declare
pub declarations : shown (codes "x/a.c") (alone (codes "x/a.c")) kinds.All true
    (function_in_a ∷ prototype_in_h ∷ []) ≡ prototype_in_h ∷ []
unfolding apart in_order is_private put
declarations = refl

pub no_declarations : shown (codes "x/a.c") (alone (codes "x/a.c")) kinds.All true
    (function_in_a ∷ []) ≡ function_in_a ∷ []
unfolding is_private
no_declarations = refl

-- a plain name is no member, and behind an accessor it is one
pub no_member : kinds_at (Some Plain) (member_in_h ∷ []) ≡ kinds.Ordinary
no_member = refl

pub a_member : kinds_at (Some Member) (function_in_a ∷ member_in_h ∷ []) ≡ kinds.Members
a_member = refl

pub a_call : kinds_at (Some Called) (function_in_a ∷ member_in_h ∷ []) ≡ kinds.Callables
a_call = refl
