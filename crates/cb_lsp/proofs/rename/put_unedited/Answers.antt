use Rattle.std.proofs.Common.{Err, subst, sym}
use Rattle.cb_tags.specs.Writing.{Puts}
use Rattle.cb_wire.specs.Messages.{id_json}
use Rattle.cb_wire.specs.Texts.{frame}
use Rattle.cb_wire.specs.Values.{value_text}
use Rattle.cb_lsp.specs.Answers.{answer_reply}
use Rattle.cb_lsp.specs.steps.Renames.{reason_of}
use Rattle.cb_lsp.proofs.rename.put_unedited.Goals as goal

pub returns-in-NotOpen : goal.returns-in-NotOpen
returns-in-NotOpen g c =
    subst (λ w. Puts c.args.out.now c.put_because.new.out c.put_because.result
    (frame (value_text (answer_reply (id_json c.args.id) (Err (reason_of w))))))
    (sym c.in-NotOpen.is) c.put_because.ensures

pub returns-in-SecondName : goal.returns-in-SecondName
returns-in-SecondName g c =
    subst (λ w. Puts c.args.out.now c.put_because-in-SecondName.new.out c.put_because-in-SecondName.result
    (frame (value_text (answer_reply (id_json c.args.id) (Err (reason_of w))))))
    (sym c.in-SecondName.is) c.put_because-in-SecondName.ensures

pub returns-in-NoMemory : goal.returns-in-NoMemory
returns-in-NoMemory g c =
    subst (λ w. Puts c.args.out.now c.put_refusal.new.out c.put_refusal.result
    (frame (value_text (answer_reply (id_json c.args.id) (Err (reason_of w))))))
    (sym c.in-NoMemory.is) c.put_refusal.ensures

pub returns-in-BadName : goal.returns-in-BadName
returns-in-BadName g c =
    subst (λ w. Puts c.args.out.now c.put_refused.new.out c.put_refused.result
    (frame (value_text (answer_reply (id_json c.args.id) (Err (reason_of w))))))
    (sym c.in-BadName.is) c.put_refused.ensures

pub returns-in-UsedAlready : goal.returns-in-UsedAlready
returns-in-UsedAlready g c =
    subst (λ w. Puts c.args.out.now c.put_refused-in-UsedAlready.new.out c.put_refused-in-UsedAlready.result
    (frame (value_text (answer_reply (id_json c.args.id) (Err (reason_of w))))))
    (sym c.in-UsedAlready.is) c.put_refused-in-UsedAlready.ensures

pub returns-in-MacroOrType : goal.returns-in-MacroOrType
returns-in-MacroOrType g c =
    subst (λ w. Puts c.args.out.now c.put_refused-in-MacroOrType.new.out c.put_refused-in-MacroOrType.result
    (frame (value_text (answer_reply (id_json c.args.id) (Err (reason_of w))))))
    (sym c.in-MacroOrType.is) c.put_refused-in-MacroOrType.ensures

pub returns-in-InMacro : goal.returns-in-InMacro
returns-in-InMacro g c =
    subst (λ w. Puts c.args.out.now c.put_because-in-InMacro.new.out c.put_because-in-InMacro.result
    (frame (value_text (answer_reply (id_json c.args.id) (Err (reason_of w))))))
    (sym c.in-InMacro.is) c.put_because-in-InMacro.ensures

pub returns-in-InArguments : goal.returns-in-InArguments
returns-in-InArguments g c =
    subst (λ w. Puts c.args.out.now c.put_because-in-InArguments.new.out c.put_because-in-InArguments.result
    (frame (value_text (answer_reply (id_json c.args.id) (Err (reason_of w))))))
    (sym c.in-InArguments.is) c.put_because-in-InArguments.ensures

pub returns-in-FromOutside : goal.returns-in-FromOutside
returns-in-FromOutside g c =
    subst (λ w. Puts c.args.out.now c.put_because-in-FromOutside.new.out c.put_because-in-FromOutside.result
    (frame (value_text (answer_reply (id_json c.args.id) (Err (reason_of w))))))
    (sym c.in-FromOutside.is) c.put_because-in-FromOutside.ensures

pub returns-in-OddBytes : goal.returns-in-OddBytes
returns-in-OddBytes g c =
    subst (λ w. Puts c.args.out.now c.put_odd_bytes.new.out c.put_odd_bytes.result
    (frame (value_text (answer_reply (id_json c.args.id) (Err (reason_of w))))))
    (sym c.in-OddBytes.is) c.put_odd_bytes.ensures

pub returns-in-NotText : goal.returns-in-NotText
returns-in-NotText g c =
    subst (λ w. Puts c.args.out.now c.put_because-in-NotText.new.out c.put_because-in-NotText.result
    (frame (value_text (answer_reply (id_json c.args.id) (Err (reason_of w))))))
    (sym c.in-NotText.is) c.put_because-in-NotText.ensures

pub returns-in-UnknownType : goal.returns-in-UnknownType
returns-in-UnknownType g c =
    subst (λ w. Puts c.args.out.now c.put_unknown_type.new.out c.put_unknown_type.result
    (frame (value_text (answer_reply (id_json c.args.id) (Err (reason_of w))))))
    (sym c.in-UnknownType.is) c.put_unknown_type.ensures
