-- The tokens since the last stop, a token at a time.
use Rattle.std.specs.Prelude.{Bool, true, false, ◌&&◌, ◌||◌, not, if◌then◌else◌, Option, None, Some}
use Rattle.std.specs.Option.{is_none, option_map}
use Rattle.cb_scan.specs.declared.facts.Def.{Def}
use Rattle.cb_scan.specs.declared.facts.Kind.TheVariants as kind
use Rattle.cb_scan.specs.declared.lex.token.Token.{Token}
use Rattle.cb_scan.specs.declared.rules.heads.Head.{Head}
use Rattle.cb_scan.specs.declared.rules.heads.Listing.{Listing}
use Rattle.cb_scan.specs.declared.rules.heads.Listing.TheVariants as listing
use Rattle.cb_scan.specs.lex.Tokens.{is_any_word, is_mark, is_name_token, is_typedef, is_static}
use Rattle.cb_scan.specs.Bytes.{close_paren, comma, equals, open_paren}

-- no token since the last stop
abbrev pub empty_head : Head
empty_head = record {
  last = None;
  begins_with_word = false;
  begins_with_typedef = false;
  has_equals = false;
  has_static = false;
  called = None;
  listing = listing.Nothing;
}

-- the first called name so far, after one more token
abbrev pub called_after : Option Token → Option Token → Token → Option Token
called_after (Some name) last t = Some name
called_after None (Some name) t =
    if is_name_token name.role && is_mark open_paren t.role then Some name else None
called_after None None t = None

-- the token is the `(` after a called name
abbrev pub calls_last : Option Token → Token → Bool
calls_last None t = false
calls_last (Some name) t = is_name_token name.role && is_mark open_paren t.role

-- how far the list of names has come that follows the first called name, after one more token
abbrev pub listing_after : Listing → Option Token → Token → Listing
listing_after listing.Nothing last t = if calls_last last t then listing.Open else listing.Nothing
listing_after listing.Open last t = if is_name_token t.role then listing.Name else listing.Other
listing_after listing.Name last t =
    if is_mark comma t.role then listing.Open
    else (if is_mark close_paren t.role then listing.Closed else listing.Other)
listing_after listing.Closed last t = if is_any_word t.role then listing.Whole else listing.Other
listing_after listing.Whole last t = listing.Whole
listing_after listing.Other last t = listing.Other

-- one more token of the head
abbrev pub add : Head → Token → Head
add h t = record {
  last = Some t;
  begins_with_word = if is_none h.last then is_any_word t.role else h.begins_with_word;
  begins_with_typedef = if is_none h.last then is_typedef t.role else h.begins_with_typedef;
  has_equals = h.has_equals || is_mark equals t.role;
  has_static = h.has_static || is_static t.role;
  called = called_after h.called h.last t;
  listing = listing_after h.listing h.last t;
}

-- the last token may end the head of a function
abbrev pub may_end : Option Token → Bool
may_end None = false
may_end (Some t) = is_mark close_paren t.role || is_name_token t.role

-- the definition of a function of that name
abbrev pub def_of : Bool → Token → Def
def_of local name = record {
  name = name.span;
  kind = kind.Function;
  line = name.line;
  local = local;
  tag = None;
}

-- the function that the tokens open, or that they are the head of, by the called name
abbrev pub opened : Head → Option Def
opened h = option_map (def_of h.has_static) h.called

-- the head is that of a function
abbrev pub defines : Head → Bool
defines h = not h.begins_with_typedef && not h.has_equals && may_end h.last

-- the function that the head defines
abbrev pub defined : Head → Option Def
defined h = if defines h then opened h else None

-- the list of names is whole
abbrev pub is_whole : Listing → Bool
is_whole listing.Whole = true
is_whole _ = false

-- the tokens open a function in the old style
abbrev pub opens : Head → Bool
opens h = not h.begins_with_typedef && not h.has_equals && is_whole h.listing

-- the tokens are a declaration
abbrev pub declares : Head → Bool
declares h = h.begins_with_word && not h.begins_with_typedef && not h.has_equals

-- the function in the old style that is open after a `;` that ends the tokens
abbrev pub next_opened : Head → Option Def → Option Def
next_opened h open_ = if opens h then opened h else (if declares h then open_ else None)
