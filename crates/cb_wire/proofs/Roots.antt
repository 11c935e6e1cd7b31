-- Roots, and names that are read back from their URIs.
use Rattle.std.proofs.Common.{◌≡◌, ◌≢◌, ℕ, zero, suc, ◌+◌, ◌-◌, ◌*◌, ◌<◌, ◌==◌, ◌&&◌, Bool, not, true, false}
use Rattle.std.proofs.Common.{List, [], ◌∷◌, ◌++◌, length, take, drop, map, Option, Some, None}
use Rattle.std.proofs.Common.{refl, sym, ap, ◌∙◌, subst, arith, ⊎_elim, ◌⊎◌, inl, inr, append_assoc}
use Rattle.std.proofs.Common.{length-append, take-append-drop}
use Rattle.std.specs.Prelude.{All, codes, if◌then◌else◌, option_map, option_and_then}
use Rattle.std.specs.Char.{digit_value, to_ascii_lowercase}
use Rattle.std.specs.Option.{unwrap_or}
use Rattle.std.specs.Str.{bytes_eq, str_eq_ignore_ascii_case}
use Rattle.std.proofs.lemmas.Bool.{cases_Bool, cond-true, eqb-true, cond-false, false≢true}
use Rattle.std.proofs.lemmas.List.{length-map}
use Rattle.std.proofs.lemmas.List.Elements.{All-head, All-tail, All-take}
use Rattle.std.proofs.lemmas.List.Sums.{suffix_len-le-length}
use Rattle.std.proofs.lemmas.Slice.Eq.{bytes_eq-Decides}
use Rattle.std.proofs.Math.Seq.{take-append_seam, take-append-add, drop-append_seam}
use Rattle.percent_encoding.specs.Percent.{percent_decode, is_escape}
use Rattle.percent_encoding.proofs.PercentLemmas.{KeepsFirst_from_no_escape, IsByte}
use Rattle.percent_encoding.proofs.PercentLemmas.{percent_decode-nil, percent_decode_not_percent}
use Rattle.percent_encoding.proofs.PercentLemmas.{percent_decode-percent_encode_byte}
use Rattle.cb_tags.proofs.Follows.{Some-same}
use Rattle.cb_wire.proofs.Forms.{both, form-slash}
use Rattle.cb_wire.specs.Uris.{Below, HasOneForm, IsRoot, IsBelow, after, after_slash, begins_with_slash, below}
use Rattle.cb_wire.specs.Uris.{escaped, escape_byte, escaped_path, if_path, is_kept, last_slashes}
use Rattle.cb_wire.specs.Uris.{name_below, of_folder, of_uri, on_this_host, one_form, path_below, path_of}
use Rattle.cb_wire.specs.Uris.{slash, uri_of}

-- a slash is no part of an escape
decode-slash : (xs ys : List ℕ) → percent_decode (xs ++ 47 ∷ ys)
    ≡ percent_decode xs ++ 47 ∷ percent_decode ys
unfolding percent_decode
decode-slash [] ys = percent_decode_not_percent 47 ys (omega arith)
decode-slash (b ∷ []) ys =
    KeepsFirst_from_no_escape (b ∷ 47 ∷ ys) (λ long is high low. omega (arith, high))
    ∙ ap (λ l. b ∷ l) (percent_decode_not_percent 47 ys (omega arith))
decode-slash (b ∷ c ∷ []) ys =
    KeepsFirst_from_no_escape (b ∷ c ∷ 47 ∷ ys) (λ long is high low. omega (arith, low))
    ∙ ap (λ l. b ∷ l) (decode-slash (c ∷ []) ys)
decode-slash (b ∷ high ∷ low ∷ rest) ys =
    let value = 16 * digit_value high + digit_value low in
    let more = percent_decode (high ∷ low ∷ (rest ++ 47 ∷ ys)) in
    elim (is_escape b high low) as (λ t.
    (if t then value ∷ percent_decode (rest ++ 47 ∷ ys) else b ∷ more)
    ≡ (if t then value ∷ percent_decode rest else b ∷ percent_decode (high ∷ low ∷ rest))
    ++ 47 ∷ percent_decode ys) [
      | true ↦ ap (λ l. value ∷ l) (decode-slash rest ys)
      | false ↦ ap (λ l. b ∷ l) (decode-slash (high ∷ low ∷ rest) ys)
    ]

-- a byte with its escape is read back
decode-byte : (b : ℕ) (rest : List ℕ) → b < 256
    → percent_decode (escape_byte b ++ rest) ≡ b ∷ percent_decode rest
decode-byte b rest small = ⊎_elim
    (λ t.
    let other : b ≢ 37 = λ e. false≢true (ap is_kept (sym e) ∙ t) in
    ap (λ l. percent_decode (l ++ rest)) (cond-true _ _ _ t)
    ∙ percent_decode_not_percent b rest other)
    (λ f. ap (λ l. percent_decode (l ++ rest)) (cond-false _ _ _ f)
    ∙ percent_decode-percent_encode_byte b rest small)
    (cases_Bool (is_kept b))

-- so is a path
pub decode-escaped : (bs : List ℕ) → All IsByte bs → percent_decode (escaped bs) ≡ bs
decode-escaped [] small = percent_decode-nil
decode-escaped (b ∷ bs) small =
    decode-byte b (escaped bs) (All-head IsByte b bs small)
    ∙ ap (λ l. b ∷ l) (decode-escaped bs (All-tail IsByte b bs small))

-- a slash at the front is kept
slash-first : (text : List ℕ) → begins_with_slash text ≡ true → begins_with_slash (escaped text) ≡ true
slash-first [] p = p
slash-first (b ∷ bs) p = ⊎_elim
    (λ t. ap (λ l. begins_with_slash (l ++ escaped bs)) (cond-true _ _ _ t) ∙ p)
    (λ f. absurd (false≢true (sym f ∙ ap is_kept (eqb-true b 47 p))))
    (cases_Bool (is_kept b))

-- a path stands behind `file://`
scheme-after : (path : List ℕ) → begins_with_slash path ≡ true
    → escaped_path (codes "file://" ++ path) ≡ Some path
scheme-after path p = cond-true (begins_with_slash path) _ _ p

-- a front with a slash behind it begins with a slash, where a longer one does
slash-again : (n : ℕ) (path rest : List ℕ) → begins_with_slash path ≡ true
    → begins_with_slash (take n path ++ 47 ∷ rest) ≡ true
slash-again zero path rest p = refl
slash-again (suc n) [] rest p = refl
slash-again (suc n) (b ∷ bs) rest p = p

slash-or-nothing : (n : ℕ) (path rest : List ℕ) → begins_with_slash path ≡ true
    → begins_with_slash (escaped (take n path) ++ 47 ∷ rest) ≡ true
slash-or-nothing zero path rest p = refl
slash-or-nothing (suc n) [] rest p = refl
slash-or-nothing (suc n) (b ∷ bs) rest p = ⊎_elim
    (λ t. ap (λ l. begins_with_slash ((l ++ escaped (take n bs)) ++ 47 ∷ rest)) (cond-true _ _ _ t) ∙ p)
    (λ f. absurd (false≢true (sym f ∙ ap is_kept (eqb-true b 47 p))))
    (cases_Bool (is_kept b))

-- the root of a folder is one
module _ (folder : List ℕ) (small : All IsByte folder) (absolute : begins_with_slash folder ≡ true) where
  pub folder_is_root : IsRoot (of_folder folder)
  folder_is_root =
      let n = length folder - last_slashes folder in
      let path = take n folder in (
        escaped path,
        ap one_form (decode-escaped path (All-take IsByte n folder small)),
        λ rest.
            let more = escaped path ++ 47 ∷ rest in
            ap escaped_path (append_assoc (codes "file://") (escaped path) (47 ∷ rest))
            ∙ scheme-after more (slash-or-nothing n folder rest absolute),
      )

-- no folder is one
pub no_folder_is_root : IsRoot (of_folder [])
no_folder_is_root = ([], ap one_form percent_decode-nil, λ rest. scheme-after (47 ∷ rest) refl)

-- what is read behind a root
pub read-below : (root : Below) (rest : List ℕ) → IsRoot root
    → path_of (root.uri ++ 47 ∷ rest) ≡ Some (root.path ++ one_form (percent_decode rest))
read-below root rest is =
    ap (λ o. option_map one_form (option_map percent_decode o)) (is.2 rest)
    ∙ ap (λ p. Some (one_form p)) (decode-slash is.0 rest)
    ∙ ap Some (form-slash (percent_decode is.0) (percent_decode rest))
    ∙ ap (λ p. Some (p ++ one_form (percent_decode rest))) is.1

-- the name of a path below a root
pub name-below : (root name : List ℕ) → begins_with_slash name ≡ false
    → name_below root (root ++ 47 ∷ name) ≡ name
name-below root name relative =
    let path = root ++ 47 ∷ name in
    let same : bytes_eq (take (length root) path) root ≡ true =
    (bytes_eq-Decides (take (length root) path) root).1 (take-append_seam root (47 ∷ name)) in
    ap (λ o. unwrap_or o path) (cond-true _ _ _ same
    ∙ ap after_slash (drop-append_seam root (47 ∷ name)) ∙ cond-true _ _ _ (ap (λ b. (47 == slash) && not b) relative))

-- a front is taken off again
front-off : (n : ℕ) (front p : List ℕ) → length front ≡ n
    → (take n (front ++ p) ≡ front) × (drop n (front ++ p) ≡ p)
front-off n front p e = (
  ap (λ m. take m (front ++ p)) (sym e) ∙ take-append_seam front p,
  ap (λ m. drop m (front ++ p)) (sym e) ∙ drop-append_seam front p,
)

none-some : {A : Type 0} {P : Type 0} (a : A) → None ≡ Some a → P
none-some a e = cc

-- letters at the front stay there, whatever follows
record IsAfter (letters text rest : List ℕ) : Type 0 where
  front : List ℕ
  long : length front ≡ length letters
  cut : text ≡ front ++ rest
  again : (p : List ℕ) → after letters (front ++ p) ≡ Some p

after-cut : (letters text rest : List ℕ) → after letters text ≡ Some rest
    → IsAfter letters text rest
after-cut letters text rest e =
    let n = length letters in
    let front = take n text in
    let test = λ (l : List ℕ). str_eq_ignore_ascii_case l letters in
    ⊎_elim
    (λ t.
    let lower = map to_ascii_lowercase in
    let same : lower front ≡ lower letters = (bytes_eq-Decides (lower front) (lower letters)).0 t in
    let long : length front ≡ n =
    sym (length-map front to_ascii_lowercase) ∙ ap length same
    ∙ length-map letters to_ascii_lowercase in
    let is : drop n text ≡ rest =
    Some-same (drop n text) rest (sym (cond-true _ _ _ t) ∙ e) in
    record {
      front = front;
      long = long;
      cut = sym (take-append-drop n text) ∙ ap (λ l. front ++ l) is;
      again = λ p. let off = front-off n front p long in
          cond-true _ _ _ (ap test off.0 ∙ t) ∙ ap Some off.1;
    })
    (λ f. none-some rest (sym (cond-false _ _ _ f) ∙ e))
    (cases_Bool (test front))

-- a path behind a front stays there, where another path follows it
record IsPathAfter (read : List ℕ → Option (List ℕ)) (text path : List ℕ) : Type 0 where
  front : List ℕ
  cut : text ≡ front ++ path
  absolute : begins_with_slash path ≡ true
  again : (p : List ℕ) → begins_with_slash p ≡ true → read (front ++ p) ≡ Some p

path-cut : (text path : List ℕ) → if_path text ≡ Some path
    → (text ≡ path) × (begins_with_slash path ≡ true)
path-cut text path e = ⊎_elim
    (λ t. let same = Some-same text path (sym (cond-true _ _ _ t) ∙ e) in
    (same, subst (λ l. begins_with_slash l ≡ true) same t))
    (λ f. none-some path (sym (cond-false _ _ _ f) ∙ e))
    (cases_Bool (begins_with_slash text))

first-same : (front a b : List ℕ) → 0 < length front
    → begins_with_slash (front ++ a) ≡ begins_with_slash (front ++ b)
first-same [] a b p = absurd (omega arith)
first-same (x ∷ xs) a b p = refl

behind : (text path : List ℕ) (o : Option (List ℕ)) → o ≡ after (codes "localhost") text
    → begins_with_slash text ≡ false → option_and_then if_path o ≡ Some path
    → IsPathAfter on_this_host text path
behind text path None is f e = none-some path e
behind text path (Some rest) is f e =
    let host = after-cut (codes "localhost") text rest (sym is) in
    let path' = path-cut rest path e in
    record {
      front = host.front;
      cut = host.cut ∙ ap (λ l. host.front ++ l) path'.0;
      absolute = path'.1;
      again = λ p t.
          let other : begins_with_slash (host.front ++ p) ≡ false =
          first-same host.front p rest (omega (arith, host.long))
          ∙ ap begins_with_slash (sym host.cut) ∙ f in
          cond-false _ _ _ other ∙ ap (option_and_then if_path) (host.again p) ∙ cond-true _ _ _ t;
    }

host-cut : (text path : List ℕ) → on_this_host text ≡ Some path
    → IsPathAfter on_this_host text path
host-cut text path e = ⊎_elim
    (λ t.
    let same = Some-same text path (sym (cond-true _ _ _ t) ∙ e) in record {
      front = [];
      cut = same;
      absolute = subst (λ l. begins_with_slash l ≡ true) same t;
      again = λ p b. cond-true _ _ _ b;
    })
    (λ f. behind text path (after (codes "localhost") text) refl f (sym (cond-false _ _ _ f) ∙ e))
    (cases_Bool (begins_with_slash text))

uri-cut : (uri path : List ℕ) (o : Option (List ℕ)) → o ≡ after (codes "file://") uri
    → option_and_then on_this_host o ≡ Some path → IsPathAfter escaped_path uri path
uri-cut uri path None is e = none-some path e
uri-cut uri path (Some rest) is e =
    let scheme = after-cut (codes "file://") uri rest (sym is) in
    let host = host-cut rest path e in
    record {
      front = scheme.front ++ host.front;
      cut = scheme.cut ∙ ap (λ l. scheme.front ++ l) host.cut
          ∙ sym (append_assoc scheme.front host.front path);
      absolute = host.absolute;
      again = λ p t. ap escaped_path (append_assoc scheme.front host.front p)
          ∙ ap (option_and_then on_this_host) (scheme.again (host.front ++ p)) ∙ host.again p t;
    }

-- the root of a file URI is one
pub uri_is_root : (uri path : List ℕ) → escaped_path uri ≡ Some path → IsRoot (of_uri uri path)
uri_is_root uri path e =
    let k = uri-cut uri path (after (codes "file://") uri) refl e in
    let n = last_slashes path in
    let few = suffix_len-le-length (λ b. b == slash) path in
    let left = take (length path - n) path in
    let long : length uri - n ≡ length k.front + (length path - n) =
    omega (arith, ap length k.cut, length-append k.front path, few) in
    let whole : take (length uri - n) uri ≡ k.front ++ left =
    ap (λ m. take m uri) long ∙ ap (take (length k.front + (length path - n))) k.cut
    ∙ take-append-add k.front path (length path - n) in (
      left,
      refl,
      λ rest. ap (λ l. escaped_path (l ++ 47 ∷ rest)) whole
          ∙ ap escaped_path (append_assoc k.front left (47 ∷ rest))
          ∙ k.again (left ++ 47 ∷ rest) (slash-again (length path - n) path rest k.absolute),
    )

-- the name of a path that is not below a root is the path
slash-cut : (l : List ℕ) (o : Option (List ℕ)) → o ≡ after_slash l
    → (o ≡ None) ⊎ ((rest : List ℕ) × (l ≡ 47 ∷ rest))
slash-cut [] o e = inl e
slash-cut (b ∷ bs) o e = ⊎_elim
    (λ t. inr (bs, ap (λ c. c ∷ bs) (eqb-true b 47 (both (b == 47) _ t).0)))
    (λ f. inl (e ∙ cond-false _ _ _ f))
    (cases_Bool (b == 47 && not (begins_with_slash bs)))

name-itself : (root path : List ℕ) → (IsBelow root path → ⊥) → name_below root path ≡ path
name-itself root path other =
    let n = length root in
    ⊎_elim
    (λ t.
    let front = (bytes_eq-Decides (take n path) root).0 t in
    ⊎_elim
    (λ none. ap (λ o. unwrap_or o path) (cond-true _ _ _ t ∙ none))
    (λ rest. absurd (other (
      rest.0,
      sym (take-append-drop n path) ∙ ap (λ l. l ++ drop n path) front
          ∙ ap (λ l. root ++ l) rest.1,
    )))
    (slash-cut (drop n path) (after_slash (drop n path)) refl))
    (λ f. ap (λ o. unwrap_or o path) (cond-false _ _ _ f))
    (cases_Bool (bytes_eq (take n path) root))

-- the path of the URI of a name
pub uri-path : (root : Below) (name : List ℕ) → IsRoot root → All IsByte name
    → HasOneForm name → path_of (uri_of root name) ≡ Some (path_below root.path name)
uri-path root name is small form = ⊎_elim
    (λ t.
    ap path_of (cond-true _ _ _ t)
    ∙ ap (λ o. option_map one_form (option_map percent_decode o))
    (scheme-after (escaped name) (slash-first name t))
    ∙ ap (λ p. Some (one_form p)) (decode-escaped name small)
    ∙ ap Some (ap one_form (sym (cond-true _ _ _ t)) ∙ form ∙ cond-true _ _ _ t
    ∙ sym (cond-true _ _ _ t)))
    (λ f.
    ap path_of (cond-false _ _ _ f) ∙ read-below root (escaped name) is
    ∙ ap (λ p. Some (root.path ++ one_form p)) (decode-escaped name small)
    ∙ ap (λ p. Some (root.path ++ p))
    (ap one_form (sym (cond-false _ _ _ f)) ∙ form ∙ cond-false _ _ _ f)
    ∙ ap Some (sym (cond-false _ _ _ f)))
    (cases_Bool (begins_with_slash name))

-- the name of the path of a name
pub path-again : (root name : List ℕ)
    → (begins_with_slash name ≡ true → IsBelow root name → ⊥)
    → name_below root (path_below root name) ≡ name
path-again root name other = ⊎_elim
    (λ t. ap (name_below root) (cond-true _ _ _ t) ∙ name-itself root name (other t))
    (λ f. ap (name_below root) (cond-false _ _ _ f) ∙ name-below root name f)
    (cases_Bool (begins_with_slash name))

-- the name of the URI of a name
pub names-again : (root : Below) (name : List ℕ) → IsRoot root → All IsByte name
    → HasOneForm name → (begins_with_slash name ≡ true → IsBelow root.path name → ⊥)
    → option_map (name_below root.path) (path_of (uri_of root name)) ≡ Some name
names-again root name is small form other =
    ap (option_map (name_below root.path)) (uri-path root name is small form)
    ∙ ap Some (path-again root.path name other)

-- what follows a root and a slash, and is no path itself
record IsCut (root path name : List ℕ) : Type 0 where
  whole : path ≡ root ++ 47 ∷ name
  relative : begins_with_slash name ≡ false

unless-true : (b : Bool) → not b ≡ true → b ≡ false
unless-true true e = cc
unless-true false e = refl

slash-off : (l name : List ℕ) → after_slash l ≡ Some name
    → (l ≡ 47 ∷ name) × (begins_with_slash name ≡ false)
slash-off [] name e = cc
slash-off (b ∷ bs) name e = ⊎_elim
    (λ t.
    let same = Some-same bs name (sym (cond-true _ _ _ t) ∙ e) in (
      ap (λ c. c ∷ bs) (eqb-true b 47 (both (b == 47) _ t).0) ∙ ap (λ l. 47 ∷ l) same,
      subst (λ l. begins_with_slash l ≡ false) same (unless-true _ (both (b == 47) _ t).1),
    ))
    (λ f. none-some name (sym (cond-false _ _ _ f) ∙ e))
    (cases_Bool (b == 47 && not (begins_with_slash bs)))

cut-of : (root path name : List ℕ) → below root path ≡ Some name → IsCut root path name
cut-of root path name e =
    let n = length root in
    ⊎_elim
    (λ t.
    let off = slash-off (drop n path) name (sym (cond-true _ _ _ t) ∙ e) in
    let front = (bytes_eq-Decides (take n path) root).0 t in record {
      whole = sym (take-append-drop n path) ∙ ap (λ l. l ++ drop n path) front
          ∙ ap (λ l. root ++ l) off.0;
      relative = off.1;
    })
    (λ f. none-some name (sym (cond-false _ _ _ f) ∙ e))
    (cases_Bool (bytes_eq (take n path) root))

from-name : (root path : List ℕ) → begins_with_slash path ≡ true → (o : Option (List ℕ))
    → below root path ≡ o → path_below root (unwrap_or o path) ≡ path
from-name root path absolute None e = cond-true _ _ _ absolute
from-name root path absolute (Some name) e = let cut = cut-of root path name e in
    cond-false _ _ _ cut.relative ∙ sym cut.whole

-- the path of the name of a path
pub path-of-name : (root path : List ℕ) → begins_with_slash path ≡ true
    → path_below root (name_below root path) ≡ path
path-of-name root path absolute = from-name root path absolute (below root path) refl
