-- What names mean where tokens of a function have other words. Which tokens are ordinary names,
-- which declare, which name labels, and their scopes stay as they are.
use Rattle.std.specs.Prelude.{◌≡◌, ◌<◌, ℕ, Bool, true, false, ◌&&◌, ◌==◌, List, filter, length, map}
use Rattle.std.specs.Prelude.{if◌then◌else◌, Option, Some}
use Rattle.std.specs.List.{range_with_len}
use Rattle.std.specs.Str.{bytes_eq}
use Rattle.cb_scan.specs.declared.lex.piece.Span.{Span}
use Rattle.cb_scan.specs.lex.Tokens.{bytes_of}
use Rattle.cb_names.specs.Bindings.{binding, declares_name, is_bound_in, is_named, scope_of}
use Rattle.cb_names.specs.Braces.{is_name_at}
use Rattle.cb_names.specs.Labels.{is_same, names_label, span}
use Rattle.cb_names.specs.Locals.{LocalName}
use Rattle.cb_names.specs.Pairs.{at, sign}
use Rattle.cb_names.specs.Scoped.{declares}
use Rattle.cb_names.specs.Scopes.{begins_for}
use Rattle.cb_names.specs.Spaces.{is_ordinary}
use Rattle.cb_names.specs.Statements.{in_block}
use Rattle.cb_names.specs.declared.local.LocalUse.{LocalUse}
use Rattle.cb_names.specs.declared.scopes.Scope.{Scope}
use Rattle.cb_names.specs.declared.word.Item.{Item}

-- ---- words

-- the words where some tokens have a new one
abbrev pub renamed : (ℕ → List ℕ) → (edited : ℕ → Bool) → (new : List ℕ) → ℕ → List ℕ
renamed word edited new k = if edited k then new else word k

-- index k is an ordinary name whose word is this one; it declares the name
abbrev pub has : (ℕ → List ℕ) → (ordinary : ℕ → Bool) → List ℕ → ℕ → Bool
has word ordinary name k = ordinary k && bytes_eq (word k) name

abbrev pub declares_word : (ℕ → List ℕ) → (ordinary declares : ℕ → Bool) → List ℕ → ℕ → Bool
declares_word word ordinary declares name k = has word ordinary name k && declares k

-- the declaration to which index k is bound
abbrev pub bound_by : (ℕ → List ℕ) → (ordinary declares : ℕ → Bool) → (ℕ → Scope) → ℕ → Option ℕ
bound_by word ordinary declares scope k =
    binding (declares_word word ordinary declares (word k)) scope k

-- index k is a use of the name in the scope that begins at an index
abbrev pub is_use_by : (ℕ → List ℕ) → (ordinary declares : ℕ → Bool) → (ℕ → Scope) → List ℕ
    → (first k : ℕ) → Bool
is_use_by word ordinary declares scope name first k =
    has word ordinary name k
    && is_bound_in (declares_word word ordinary declares name) scope first k

-- ---- in a function, whose name has index m, and whose body begins at index b

-- the words of its tokens
abbrev pub own_words : List ℕ → List Item → ℕ → List ℕ
own_words text xs k = bytes_of text (span (at xs k))

-- the declaration to which index k is bound, where these are the words
abbrev pub bound_in : (ℕ → List ℕ) → List Item → (m b : ℕ) → (k : ℕ) → Option ℕ
bound_in word xs m b k = bound_by word (is_ordinary xs b) (declares xs m b) (scope_of xs m b) k

-- index j is a use of the name that index k has, in the scope of what index d declares
abbrev pub is_use_in : (ℕ → List ℕ) → List Item → (m b : ℕ) → (d k j : ℕ) → Bool
is_use_in word xs m b d k j =
    is_use_by word (is_ordinary xs b) (declares xs m b) (scope_of xs m b) (word k)
    (scope_of xs m b d).first j

-- index k is a use of the local that index d declares
abbrev pub is_use_of : List ℕ → List Item → (m b : ℕ) → (d k : ℕ) → Bool
is_use_of text xs m b d k =
    let name = own_words text xs d in
    is_named text xs b name k
    && is_bound_in (declares_name text xs m b name) (scope_of xs m b) (scope_of xs m b d).first k

-- the words where the uses of this local have a new one
abbrev pub with_local : List ℕ → List Item → (m b : ℕ) → (d : ℕ) → (new : List ℕ) → ℕ → List ℕ
with_local text xs m b d new = renamed (own_words text xs) (is_use_of text xs m b d) new

-- index j names the label that index k names
abbrev pub is_label_use : List ℕ → List Item → (b : ℕ) → (k j : ℕ) → Bool
is_label_use text xs b k j = names_label xs b j && is_same text xs j k

-- the words where the tokens that name this label have a new one
abbrev pub with_label : List ℕ → List Item → (b : ℕ) → (k : ℕ) → (new : List ℕ) → ℕ → List ℕ
with_label text xs b k new = renamed (own_words text xs) (is_label_use text xs b k) new

-- no ordinary name of the function has the word; no token that names a label has it
abbrev pub IsNewToNames : List ℕ → List Item → (b : ℕ) → List ℕ → Type 0
IsNewToNames text xs b new = (k : ℕ) → k < length xs → is_named text xs b new k ≡ false

abbrev pub IsNewToLabels : List ℕ → List Item → (b : ℕ) → List ℕ → Type 0
IsNewToLabels text xs b new =
    (k : ℕ) → k < length xs → (names_label xs b k && bytes_eq (own_words text xs k) new) ≡ false

-- no name of the function has the word
abbrev pub IsNewToAll : List ℕ → List Item → List ℕ → Type 0
IsNewToAll text xs new =
    (k : ℕ) → k < length xs → is_name_at xs k ≡ true → bytes_eq (own_words text xs k) new ≡ false

-- each `for` that is the scope of a declaration of the name is a word directly in a block
abbrev pub ForsAreInBlocks : List ℕ → List Item → (m b : ℕ) → (name : List ℕ) → Type 0
ForsAreInBlocks text xs m b name =
    (k : ℕ) → k < length xs → declares_name text xs m b name k ≡ true
    → let f = (scope_of xs m b k).first in
    begins_for xs f ≡ true → (sign xs f == 0 && in_block xs b f) ≡ true

-- each declaration of a name is bound to itself
abbrev pub AreBoundToThemselves : List ℕ → List Item → (m b : ℕ) → (name : List ℕ) → Type 0
AreBoundToThemselves text xs m b name =
    (k : ℕ) → k < length xs → declares_name text xs m b name k ≡ true
    → binding (declares_name text xs m b name) (scope_of xs m b) k ≡ Some k

-- ---- what stays where words are others

-- each ordinary name of the function is bound to the declaration of before
abbrev pub BindsAsBefore : List ℕ → List Item → (m b : ℕ) → (word : ℕ → List ℕ) → Type 0
BindsAsBefore text xs m b word =
    (k : ℕ) → k < length xs → is_ordinary xs b k ≡ true
    → bound_in word xs m b k ≡ bound_in (own_words text xs) xs m b k

-- the local that an ordinary name means has the uses of before
abbrev pub UsesAsBefore : List ℕ → List Item → (m b : ℕ) → (word : ℕ → List ℕ) → Type 0
UsesAsBefore text xs m b word =
    (d k j : ℕ) → k < length xs → j < length xs → is_ordinary xs b k ≡ true
    → bound_in (own_words text xs) xs m b k ≡ Some d
    → is_use_in word xs m b d k j ≡ is_use_in (own_words text xs) xs m b d k j

-- two tokens that name labels name the same one if they did before, and else not
abbrev pub LabelsAsBefore : List ℕ → List Item → (b : ℕ) → (word : ℕ → List ℕ) → Type 0
LabelsAsBefore text xs b word =
    (j k : ℕ) → j < length xs → k < length xs → names_label xs b j ≡ true
    → names_label xs b k ≡ true → bytes_eq (word j) (word k) ≡ is_same text xs j k

-- ---- what is answered

-- the tokens that pass a test
abbrev pub spans_where : List Item → (test : ℕ → Bool) → List Span
spans_where xs test = map (λ k. span (at xs k)) (filter test (range_with_len 0 (length xs)))

-- the tokens that an answer lists
abbrev pub listed : LocalName → List Span
listed local = map (λ (u : LocalUse). u.name) local.uses
