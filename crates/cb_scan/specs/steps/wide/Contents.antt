-- What the bodies of structures, unions and enumerations define, a token at a time.
use Rattle.std.specs.Prelude.{◌≡◌, ℕ, Bool, true, false, List, [], ◌∷◌, ◌++◌, drop, max, reverse}
use Rattle.std.specs.Prelude.{Option, Some, None, if◌then◌else◌, replicate}
use Rattle.std.specs.List.{AllByRecursion, flat_map}
use Rattle.std.specs.Option.{option_map_or}
use Rattle.cb_scan.specs.declared.rules.wide.declaration.Declaration.{Declaration}
use Rattle.cb_scan.specs.declared.facts.Tag.{Tag}
use Rattle.cb_scan.specs.declared.facts.Def.{Def}
use Rattle.cb_scan.specs.declared.facts.Kind.TheVariants as kind
use Rattle.cb_scan.specs.declared.rules.wide.level.Level.{Level}
use Rattle.cb_scan.specs.declared.rules.wide.level.Level.TheVariants.{Block, Enumerators, Members}
use Rattle.cb_scan.specs.declared.rules.wide.levels.Body.{Body}
use Rattle.cb_scan.specs.declared.rules.wide.opening.Opening.{Opening}
use Rattle.cb_scan.specs.declared.rules.wide.token.WideToken.{WideToken}
use Rattle.cb_scan.specs.rules.wide.Kinds.{def_in}
use Rattle.cb_scan.specs.rules.wide.Words.{is_sign}
use Rattle.cb_scan.specs.steps.wide.Declarations.{Given, ends_part, given, grown, may_name}
use Rattle.cb_scan.specs.steps.wide.Declarations.{next_member}
use Rattle.cb_scan.specs.steps.wide.Enumerators.{is_enumerator, next_enumeration}
use Rattle.cb_scan.specs.steps.wide.Levels.{member_tag, opened}
use Rattle.cb_scan.specs.steps.wide.Openings.{next_opening}
use Rattle.cb_scan.specs.Bytes.{close_brace}

-- the member that a part gives
abbrev pub member_given : Option Tag → Given → List Def
member_given tag g =
    if g.of_type then []
    else option_map_or (λ (x : WideToken). def_in kind.Member tag x.token ∷ []) g.name []

-- the member of the part that ends here, if it can name something
abbrev pub member_here : Option Tag → Declaration → List Def
member_here tag d = if may_name d then member_given tag (given d) else []

-- what a level defines at the first of these tokens
abbrev pub level_out : Level → List WideToken → WideToken → List Def
level_out (Members tag d) xs x = if ends_part d x then member_here tag d else []
level_out (Enumerators tag e) xs x =
    if is_enumerator e xs then def_in kind.Enumerator tag x.token ∷ [] else []
level_out Block xs x = []

-- a declaration of a structure or union after the first of these tokens
abbrev pub next_of_members : Declaration → List WideToken → WideToken → Declaration
next_of_members d xs x = if ends_part d x then next_member d x else grown d xs x

-- a level after it
abbrev pub next_level : Level → List WideToken → WideToken → Level
next_level (Members tag d) xs x = Members tag (next_of_members d xs x)
next_level (Enumerators tag e) xs x = Enumerators tag (next_enumeration e x)
next_level Block xs x = Block

-- what a level defines from a state on
unfoldable pub level_defs : Level → List WideToken → List Def
level_defs l [] = []
level_defs l (x ∷ xs) = level_out l (x ∷ xs) x ++ level_defs (next_level l (x ∷ xs) x) xs

-- how many parentheses and brackets are open in a level
abbrev pub count_of : Level → ℕ
count_of (Members tag d) = d.count
count_of (Enumerators tag e) = e.count
count_of Block = 0

-- ---- the levels that are open, the innermost first

-- how many parentheses and brackets are open at most in one of them
abbrev pub most_open : List Level → ℕ
most_open [] = 0
most_open (l ∷ ls) = max (count_of l) (most_open ls)

-- what the innermost defines at the first of these tokens; a `}` is not of it
abbrev pub defined_by : List Level → List WideToken → WideToken → List Def
defined_by [] xs x = []
defined_by (l ∷ ls) xs x = if is_sign close_brace x.role then [] else level_out l xs x

-- the innermost goes on
abbrev pub first_goes_on : List Level → List WideToken → WideToken → List Level
first_goes_on [] xs x = []
first_goes_on (l ∷ ls) xs x = next_level l xs x ∷ ls

-- the tag around members that are directly inside
abbrev pub tag_inside : List Level → Option Tag
tag_inside [] = None
tag_inside (l ∷ ls) = member_tag l

-- after a `}`: one in the first column closes all
abbrev pub closed_by : WideToken → List Level → List Level
closed_by x ls = if x.token.starts_line then [] else drop 1 ls

-- the levels after the first of these tokens, where a `{` would open this
abbrev pub next_levels : Option Opening → List Level → List WideToken → WideToken → List Level
next_levels o ls xs x =
    if x.counted then opened o (tag_inside ls) ∷ first_goes_on ls xs x
    else (if is_sign close_brace x.role then closed_by x ls else first_goes_on ls xs x)

-- what bodies define from a state on
unfoldable pub contents_from : Option Opening → List Level → List WideToken → List Def
contents_from o ls [] = []
contents_from o ls (x ∷ xs) =
    defined_by ls (x ∷ xs) x
    ++ contents_from (next_opening o x) (next_levels o ls (x ∷ xs) x) xs

-- the innermost level is a block
abbrev pub are_in_block : List Level → Bool
are_in_block (Block ∷ ls) = true
are_in_block _ = false

-- a level is the body of a structure, union or enumeration
abbrev pub is_body : Level → Bool
is_body Block = false
is_body _ = true

-- ---- the levels as they are kept: blocks are counted

-- a body, and the blocks directly around it
abbrev pub levels_in : Body → List Level
levels_in b = b.level ∷ replicate b.blocks Block

-- the innermost body, and what is around it
abbrev pub bodies_of : Option Body → List Body → List Level
bodies_of None around = []
bodies_of (Some b) around = levels_in b ++ flat_map levels_in (reverse around)

-- the blocks inside the innermost body, and that body with what is around it
abbrev pub levels_of : ℕ → Option Body → List Body → List Level
levels_of blocks first around = replicate blocks Block ++ bodies_of first around

-- each level that is not counted is a body, and some are around only where there is an innermost
-- one
abbrev pub AreBodies : Option Body → List Body → Type 0
AreBodies None around = around ≡ []
AreBodies (Some b) around =
    (is_body b.level ≡ true) × AllByRecursion (λ (c : Body). is_body c.level ≡ true) around
