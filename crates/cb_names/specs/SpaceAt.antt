-- The name space of the name at a place of a text, as far as the tokens around it tell (ISO C 2011,
-- 6.2.3, found in tokens by this project's profile). ISO C has one space for all tags. Here the tags
-- of structures, unions and enumerations have one each. Labels are not told from other names.
use Rattle.std.specs.Prelude.{ℕ, zero, suc, List, length, nat_lt, if◌then◌else◌, Option, None, Some}
use Rattle.cb_scan.specs.Bytes.{open_paren}
use Rattle.cb_scan.specs.declared.rules.wide.role.WideRole.{WideRole}
use Rattle.cb_scan.specs.declared.rules.wide.role.WideRole.TheVariants as wide
use Rattle.cb_names.specs.Braces.{is_keyword_at}
use Rattle.cb_names.specs.Functions.{items}
use Rattle.cb_names.specs.HardAttributes.{without_hard}
use Rattle.cb_names.specs.Labels.{index_at}
use Rattle.cb_names.specs.Pairs.{at, is_at}
use Rattle.cb_names.specs.Spaces.{follows_accessor, is_tag}
use Rattle.cb_names.specs.declared.space.Space.{Space}
use Rattle.cb_names.specs.declared.space.Space.TheVariants.{Member, Struct, Union, Enum}
use Rattle.cb_names.specs.declared.space.Space.TheVariants.{Called, Plain}
use Rattle.cb_names.specs.declared.word.Item.{Item}

-- the space of a tag, by `struct`, `union` or `enum` before it
abbrev pub tag_space : WideRole → Space
tag_space wide.Struct = Struct
tag_space wide.Union = Union
tag_space wide.Enum = Enum
tag_space _ = Plain

-- the space of a tag at index k, by the nearest of the three words before it
unfoldable pub tag_space_at : List Item → ℕ → Space
tag_space_at xs zero = Plain
tag_space_at xs (suc k) =
    if is_keyword_at xs k then tag_space (at xs k).token.role else tag_space_at xs k

-- the space of the name at index k
abbrev pub space_of : List Item → ℕ → Space
space_of xs k =
    if follows_accessor xs k then Member
    else (if is_tag xs k then tag_space_at xs k
    else (if is_at open_paren xs (suc k) then Called
    else Plain))

-- the space of the first name that holds a place or ends at it, if there is one
abbrev pub space_in : List Item → ℕ → Option Space
space_in xs place =
    let k = index_at place xs in
    if nat_lt k (length xs) then Some (space_of xs k) else None

-- the same in the code of a text, without the attributes that are left out everywhere
abbrev pub space_at : List ℕ → ℕ → Option Space
space_at text place = space_in (without_hard (items text)) place
