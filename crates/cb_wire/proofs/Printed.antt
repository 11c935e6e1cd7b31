-- The text of a value, with what follows it: a fixed value computes.
use Rattle.std.proofs.Common.{◌≡◌, ℕ, Bool, true, false, List, [], ◌∷◌, ◌++◌, map}
use Rattle.std.proofs.Common.{refl, sym, ap, ◌∙◌, append_assoc, append-nil}
use Rattle.std.specs.Prelude.{codes}
use Rattle.json.specs.Token.{Token}
use Rattle.json.specs.Json.{Json, null, boolean, number, string, array, object}
use Rattle.json.specs.Json.{Items, no_items, item, Members, no_members, member}
use Rattle.json.specs.Print.{escape, print_from, quoted}
use Rattle.json.specs.Tree.{json_tokens, items_tokens, members_tokens}
use Rattle.cb_wire.specs.Lists.{joined, with_separators}
use Rattle.cb_wire.specs.Values.{items_of, value_text}

-- a comma, behind a value
abbrev pub comma : Bool → List ℕ → List ℕ
comma true rest = 44 ∷ rest
comma false rest = rest

-- the text of a value, and what follows
abbrev mutual
  pub text_then : Json → List ℕ → List ℕ
  text_then null rest = 110 ∷ 117 ∷ 108 ∷ 108 ∷ rest
  text_then (boolean true) rest = 116 ∷ 114 ∷ 117 ∷ 101 ∷ rest
  text_then (boolean false) rest = 102 ∷ 97 ∷ 108 ∷ 115 ∷ 101 ∷ rest
  text_then (number s) rest = s ++ rest
  text_then (string s) rest = 34 ∷ (escape s ++ 34 ∷ rest)
  text_then (array js) rest = 91 ∷ items_then false js rest
  text_then (object ms) rest = 123 ∷ members_then false ms rest

  pub items_then : Bool → Items → List ℕ → List ℕ
  items_then after no_items rest = 93 ∷ rest
  items_then after (item j js) rest = comma after (text_then j (items_then true js rest))

  pub members_then : Bool → Members → List ℕ → List ℕ
  members_then after no_members rest = 125 ∷ rest
  members_then after (member k j ms) rest =
      comma after (34 ∷ (escape k ++ 34 ∷ 58 ∷ text_then j (members_then true ms rest)))

-- the text of a string of JSON, and what follows
quoted_then : (s rest : List ℕ) → quoted s ++ rest ≡ 34 ∷ (escape s ++ 34 ∷ rest)
quoted_then s rest = ap (λ l. 34 ∷ l) (append_assoc (escape s) (34 ∷ []) rest)

key_then : (s rest : List ℕ) → (quoted s ++ 58 ∷ []) ++ rest ≡ 34 ∷ (escape s ++ 34 ∷ 58 ∷ rest)
key_then s rest = append_assoc (quoted s) (58 ∷ []) rest ∙ quoted_then s (58 ∷ rest)

-- a member, before what follows
member_step : (k : List ℕ) (j : Json) (ms : Members) (ts : List Token)
    → print_from false (json_tokens j ++ (members_tokens ms ++ ts))
    ≡ text_then j (print_from true (members_tokens ms ++ ts))
    → print_from true (members_tokens ms ++ ts) ≡ members_then true ms (print_from true ts)
    → (quoted k ++ 58 ∷ []) ++ print_from false ((json_tokens j ++ members_tokens ms) ++ ts)
    ≡ 34 ∷ (escape k ++ 34 ∷ 58 ∷ text_then j (members_then true ms (print_from true ts)))
member_step k j ms ts p q =
    key_then k (print_from false ((json_tokens j ++ members_tokens ms) ++ ts))
    ∙ ap (λ l. 34 ∷ (escape k ++ 34 ∷ 58 ∷ l))
    (ap (print_from false) (append_assoc (json_tokens j) (members_tokens ms) ts)
    ∙ p ∙ ap (text_then j) q)

mutual
  unfolding print_from

  -- a value among other tokens
  value_printed : (after : Bool) (j : Json) (ts : List Token)
      → print_from after (json_tokens j ++ ts) ≡ comma after (text_then j (print_from true ts))
  value_printed true null ts = refl
  value_printed false null ts = refl
  value_printed true (boolean true) ts = refl
  value_printed true (boolean false) ts = refl
  value_printed false (boolean true) ts = refl
  value_printed false (boolean false) ts = refl
  value_printed true (number s) ts = refl
  value_printed false (number s) ts = refl
  value_printed true (string s) ts = ap (λ l. 44 ∷ l) (quoted_then s (print_from true ts))
  value_printed false (string s) ts = quoted_then s (print_from true ts)
  value_printed true (array js) ts = ap (λ l. 44 ∷ 91 ∷ l) (items_printed false js ts)
  value_printed false (array js) ts = ap (λ l. 91 ∷ l) (items_printed false js ts)
  value_printed true (object ms) ts = ap (λ l. 44 ∷ 123 ∷ l) (members_printed false ms ts)
  value_printed false (object ms) ts = ap (λ l. 123 ∷ l) (members_printed false ms ts)

  items_printed : (after : Bool) (js : Items) (ts : List Token)
      → print_from after (items_tokens js ++ ts) ≡ items_then after js (print_from true ts)
  items_printed true no_items ts = refl
  items_printed false no_items ts = refl
  items_printed after (item j js) ts =
      ap (print_from after) (append_assoc (json_tokens j) (items_tokens js) ts)
      ∙ value_printed after j (items_tokens js ++ ts)
      ∙ ap (λ l. comma after (text_then j l)) (items_printed true js ts)

  members_printed : (after : Bool) (ms : Members) (ts : List Token)
      → print_from after (members_tokens ms ++ ts) ≡ members_then after ms (print_from true ts)
  members_printed true no_members ts = refl
  members_printed false no_members ts = refl
  members_printed true (member k j ms) ts =
      ap (λ l. 44 ∷ l)
      (member_step k j ms ts (value_printed false j (members_tokens ms ++ ts))
      (members_printed true ms ts))
  members_printed false (member k j ms) ts =
      member_step k j ms ts (value_printed false j (members_tokens ms ++ ts))
      (members_printed true ms ts)

-- an element, and a member, with what follows
item_more : (j : Json) (more less b : List ℕ) → more ≡ less ++ b
    → text_then j (less ++ b) ≡ text_then j less ++ b → text_then j more ≡ text_then j less ++ b
item_more j more less b p q = ap (text_then j) p ∙ q

member_more : (k more less b : List ℕ) → more ≡ less ++ b
    → 34 ∷ (escape k ++ 34 ∷ 58 ∷ more) ≡ (34 ∷ (escape k ++ 34 ∷ 58 ∷ less)) ++ b
member_more k more less b p =
    ap (λ l. 34 ∷ (escape k ++ 34 ∷ 58 ∷ l)) p
    ∙ ap (λ l. 34 ∷ l) (sym (append_assoc (escape k) (34 ∷ 58 ∷ less) b))

mutual
  -- what follows may be cut off
  text_then-append : (j : Json) (a b : List ℕ) → text_then j (a ++ b) ≡ text_then j a ++ b
  text_then-append null a b = refl
  text_then-append (boolean true) a b = refl
  text_then-append (boolean false) a b = refl
  text_then-append (number s) a b = sym (append_assoc s a b)
  text_then-append (string s) a b = ap (λ l. 34 ∷ l) (sym (append_assoc (escape s) (34 ∷ a) b))
  text_then-append (array js) a b = ap (λ l. 91 ∷ l) (items_then-append false js a b)
  text_then-append (object ms) a b = ap (λ l. 123 ∷ l) (members_then-append false ms a b)

  items_then-append : (after : Bool) (js : Items) (a b : List ℕ)
      → items_then after js (a ++ b) ≡ items_then after js a ++ b
  items_then-append after no_items a b = refl
  items_then-append true (item j js) a b =
      ap (λ l. 44 ∷ l)
      (item_more j _ (items_then true js a) b (items_then-append true js a b)
      (text_then-append j (items_then true js a) b))
  items_then-append false (item j js) a b =
      item_more j _ (items_then true js a) b (items_then-append true js a b)
      (text_then-append j (items_then true js a) b)

  members_then-append : (after : Bool) (ms : Members) (a b : List ℕ)
      → members_then after ms (a ++ b) ≡ members_then after ms a ++ b
  members_then-append after no_members a b = refl
  members_then-append true (member k j ms) a b =
      ap (λ l. 44 ∷ l)
      (member_more k _ (text_then j (members_then true ms a)) b
      (item_more j _ (members_then true ms a) b (members_then-append true ms a b)
      (text_then-append j (members_then true ms a) b)))
  members_then-append false (member k j ms) a b =
      member_more k _ (text_then j (members_then true ms a)) b
      (item_more j _ (members_then true ms a) b (members_then-append true ms a b)
      (text_then-append j (members_then true ms a) b))

-- the text of a value
pub value_text-is : (j : Json) → value_text j ≡ text_then j []
unfolding print_from
value_text-is j =
    ap (print_from false) (sym (append-nil (json_tokens j))) ∙ value_printed false j []

-- the text of a value, before a text
pub value_text-then : (j : Json) (rest : List ℕ) → value_text j ++ rest ≡ text_then j rest
value_text-then j rest =
    ap (λ l. l ++ rest) (value_text-is j) ∙ sym (text_then-append j [] rest)

-- elements behind a first one, each with its comma
items_joined : (js : List Json) (rest : List ℕ)
    → items_then true (items_of js) rest
    ≡ with_separators (codes ",") (map value_text js) ++ 93 ∷ rest
items_joined [] rest = refl
items_joined (j ∷ js) rest =
    let more = with_separators (codes ",") (map value_text js) in
    ap (λ l. 44 ∷ text_then j l) (items_joined js rest)
    ∙ ap (λ l. 44 ∷ l) (sym (value_text-then j (more ++ 93 ∷ rest)))
    ∙ ap (λ l. 44 ∷ l) (sym (append_assoc (value_text j) more (93 ∷ rest)))

-- the text of an array, before a text
pub array-then : (js : List Json) (rest : List ℕ)
    → text_then (array (items_of js)) rest
    ≡ codes "[" ++ (joined (codes ",") (map value_text js) ++ 93 ∷ rest)
array-then [] rest = refl
array-then (j ∷ js) rest =
    let more = with_separators (codes ",") (map value_text js) in
    ap (λ l. 91 ∷ text_then j l) (items_joined js rest)
    ∙ ap (λ l. 91 ∷ l) (sym (value_text-then j (more ++ 93 ∷ rest)))
    ∙ ap (λ l. 91 ∷ l) (sym (append_assoc (value_text j) more (93 ∷ rest)))

-- the text of an array
pub array-text : (js : List Json)
    → value_text (array (items_of js))
    ≡ codes "[" ++ (joined (codes ",") (map value_text js) ++ codes "]")
array-text js = value_text-is (array (items_of js)) ∙ array-then js []
