-- File URIs, the paths that they name, and the names of files below a root.
use Rattle.std.specs.Prelude.{◌≡◌, ◌-◌, ◌==◌, ◌||◌, ◌&&◌, ◌++◌, ℕ, Bool, false, not, cond, codes}
use Rattle.std.specs.Prelude.{List, [], ◌∷◌, filter, length, take, drop, Option, Some, None}
use Rattle.std.specs.Prelude.{option_map}
use Rattle.std.specs.Prelude.{option_and_then}
use Rattle.std.specs.Char.{is_ascii_alphanumeric}
use Rattle.std.specs.List.{flat_map, list_all, list_any, slice_split, suffix_len}
use Rattle.std.specs.Option.{unwrap_or}
use Rattle.std.specs.Str.{bytes_eq, str_eq_ignore_ascii_case}
use Rattle.percent_encoding.specs.Percent.{percent_decode, percent_encode_byte}

abbrev pub slash : ℕ
slash = 47

abbrev pub begins_with_slash : List ℕ → Bool
begins_with_slash [] = false
begins_with_slash (b ∷ bs) = b == slash

-- what follows some letters, in either case, at the front of a text
abbrev pub after : List ℕ → List ℕ → Option (List ℕ)
after letters text =
    cond (str_eq_ignore_ascii_case (take (length letters) text) letters)
    (Some (drop (length letters) text)) None

abbrev pub if_path : List ℕ → Option (List ℕ)
if_path text = cond (begins_with_slash text) (Some text) None

-- `file://`, and then a path, or `localhost` and a path
abbrev pub on_this_host : List ℕ → Option (List ℕ)
on_this_host text =
    cond (begins_with_slash text) (Some text)
    (option_and_then if_path (after (codes "localhost") text))

-- the path of a file URI, as it stands there
abbrev pub escaped_path : List ℕ → Option (List ℕ)
escaped_path uri = option_and_then on_this_host (after (codes "file://") uri)

-- the segments of a path, between its slashes. One that is empty or a dot leads nowhere
abbrev pub segments : List ℕ → List (List ℕ)
segments path = slice_split (λ b. b == slash) path

abbrev pub leads_on : List ℕ → Bool
leads_on segment = not (bytes_eq segment [] || bytes_eq segment (codes "."))

-- the one form of a path: a slash before each segment that leads on
abbrev pub one_form : List ℕ → List ℕ
one_form path = flat_map (λ segment. slash ∷ segment) (filter leads_on (segments path))

-- a path that is seen to have it
abbrev pub has_one_form : List ℕ → Bool
has_one_form [] = false
has_one_form (b ∷ rest) = b == slash && list_all leads_on (segments rest)

-- a path with a segment of two dots, which is refused: where it leads, only the file system knows
abbrev pub steps_back : List ℕ → Bool
steps_back path = list_any (λ segment. bytes_eq segment (codes "..")) (segments path)

-- the path of a file URI, with each `%` and two hexadecimal digits read as one byte
abbrev pub decoded_path : List ℕ → Option (List ℕ)
decoded_path uri = option_map percent_decode (escaped_path uri)

-- the same in its one form
abbrev pub path_of : List ℕ → Option (List ℕ)
path_of uri = option_map one_form (decoded_path uri)

-- a byte that stands for itself in a URI that is written
abbrev pub is_kept : ℕ → Bool
is_kept b =
    is_ascii_alphanumeric b || (b == 45 || (b == 46 || (b == 95 || (b == 126 || b == slash))))

-- the other bytes are `%` and two capital hexadecimal digits
abbrev pub escape_byte : ℕ → List ℕ
escape_byte b = cond (is_kept b) (b ∷ []) (percent_encode_byte b)

abbrev pub escaped : List ℕ → List ℕ
escaped path = flat_map escape_byte path

-- how many slashes a text ends with, and the text without them
abbrev pub last_slashes : List ℕ → ℕ
last_slashes text = suffix_len (λ b. b == slash) text

abbrev pub without_slashes : ℕ → List ℕ → List ℕ
without_slashes count text = take (length text - count) text

-- the folder that names are relative to: its path, and its URI as it is written
pub record Below : Type 0 where
  pub path : List ℕ
  pub uri : List ℕ

-- the root of a folder
abbrev pub of_folder : List ℕ → Below
of_folder folder =
    let path = without_slashes (last_slashes folder) folder in
    record { path = one_form path; uri = codes "file://" ++ escaped path }

-- the root of a file URI that has this path
abbrev pub of_uri : List ℕ → List ℕ → Below
of_uri uri path = record {
  path = one_form (percent_decode (without_slashes (last_slashes path) path));
  uri = without_slashes (last_slashes path) uri;
}

abbrev pub after_slash : List ℕ → Option (List ℕ)
after_slash [] = None
after_slash (b ∷ bs) = cond (b == slash && not (begins_with_slash bs)) (Some bs) None

-- what follows the root and one slash, and does not begin with another, where a path begins so
abbrev pub below : List ℕ → List ℕ → Option (List ℕ)
below root path =
    cond (bytes_eq (take (length root) path) root) (after_slash (drop (length root) path)) None

-- the path without the root and one slash, where it begins so; else the whole path
abbrev pub name_below : List ℕ → List ℕ → List ℕ
name_below root path = unwrap_or (below root path) path

-- the name of the file of a path in one form: below a root, if there is one
abbrev pub name_in : (root : Option (List ℕ)) → List ℕ → List ℕ
name_in None path = path
name_in (Some root) path = name_below root path

-- the name of the file of a path that is given; one that begins with no slash is a name already
abbrev pub given_name : (root : Option (List ℕ)) → List ℕ → List ℕ
given_name root path =
    cond (begins_with_slash path) (name_in root (one_form path)) (drop 1 (one_form path))

-- whatever follows a slash after the root's URI, its path follows one after the root's path
abbrev pub IsRoot : Below → Type 0
IsRoot root =
    (path : List ℕ) × (one_form (percent_decode path) ≡ root.path)
    × ((rest : List ℕ) → escaped_path (root.uri ++ slash ∷ rest) ≡ Some (path ++ slash ∷ rest))

-- a path lies below a root
abbrev pub IsBelow : List ℕ → List ℕ → Type 0
IsBelow root path = (name : List ℕ) × (path ≡ root ++ slash ∷ name)

-- the URI of a name: of a path itself, or below the root
abbrev pub uri_of : Below → List ℕ → List ℕ
uri_of root name =
    cond (begins_with_slash name) (codes "file://" ++ escaped name)
    (root.uri ++ slash ∷ escaped name)

-- the path of a name: the name itself, or below the root
abbrev pub path_below : (root name : List ℕ) → List ℕ
path_below root name = cond (begins_with_slash name) name (root ++ slash ∷ name)

-- a name whose path has its one form
abbrev pub HasOneForm : List ℕ → Type 0
HasOneForm name = one_form (path_below [] name) ≡ path_below [] name
