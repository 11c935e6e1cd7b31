-- The texts of names that complete a word.
use Rattle.std.proofs.Common.{◌≡◌, ℕ, ◌<◌, ◌^◌, Bool, true, false, List, ◌++◌, ◌∷◌, map, ap, ◌∙◌}
use Rattle.std.proofs.Common.{decimal, sym}
use Rattle.std.specs.Prelude.{codes}
use Rattle.json.specs.Json.{Json}
use Rattle.json.specs.Print.{escape, escape_byte}
use Rattle.json.specs.Tree.{HasNumbers}
use Rattle.json.proofs.Printed.Decimals.{IsNumber-decimal}
use Rattle.cb_wire.specs.declared.completion.Completion.{Completion}
use Rattle.cb_wire.specs.declared.completion.Rank.{Rank}
use Rattle.cb_wire.specs.declared.completion.Rank.TheVariants.{Local, Session}
use Rattle.cb_wire.specs.declared.message.Id.{Id}
use Rattle.cb_wire.specs.Completions.{completion_item, completion_list, completion_tree}
use Rattle.cb_wire.specs.Completions.{completions_front, rank_digit}
use Rattle.cb_wire.specs.Lists.{list_text}
use Rattle.cb_wire.specs.Messages.{id_json}
use Rattle.cb_wire.specs.Replies.{result_body}
use Rattle.cb_wire.specs.Texts.{readable}
use Rattle.cb_wire.specs.Trees.{result_reply}
use Rattle.cb_wire.specs.Values.{value_text}
use Rattle.cb_wire.proofs.Printed.{array-then, value_text-is}
use Rattle.cb_wire.proofs.Trees.{result-text}

pub item-text : (label : List ℕ) (kind : ℕ) (rank : Rank)
    → value_text (completion_item label kind rank)
    ≡ codes "{\"label\":\"" ++ (escape (readable label)
    ++ (codes "\",\"kind\":" ++ (decimal kind ++ (codes ",\"sortText\":\""
    ++ (rank_digit rank ∷ (escape (readable label) ++ codes "\"}"))))))
unfolding escape_byte
item-text label kind Local = value_text-is (completion_item label kind Local)
item-text label kind Session = value_text-is (completion_item label kind Session)

pub item-numbers : (c : Completion) → c.kind < 2 ^ 64 → HasNumbers (completion_tree c)
item-numbers c k = (tt, (IsNumber-decimal c.kind k, (tt, tt)))

-- the text of a list of them
pub completions-text : (more : Bool) (js : List Json)
    → list_text (completions_front more) (codes ",") (codes "]}") (map value_text js)
    ≡ value_text (completion_list more js)
unfolding escape_byte
completions-text true js =
    ap (λ t. codes "{\"isIncomplete\":true,\"items\":" ++ t) (sym (array-then js (codes "}")))
    ∙ sym (value_text-is (completion_list true js))
completions-text false js =
    ap (λ t. codes "{\"isIncomplete\":false,\"items\":" ++ t) (sym (array-then js (codes "}")))
    ∙ sym (value_text-is (completion_list false js))

-- a reply whose result it is
pub completions-reply : (id : Id) (more : Bool) (js : List Json)
    → result_body id (list_text (completions_front more) (codes ",") (codes "]}") (map value_text js))
    ≡ value_text (result_reply (id_json id) (completion_list more js))
completions-reply id more js =
    ap (result_body id) (completions-text more js)
    ∙ result-text id (completion_list more js)
