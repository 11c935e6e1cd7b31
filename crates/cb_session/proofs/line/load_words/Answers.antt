use Rattle.std.proofs.Common.{sym, refl}
use Rattle.cb_session.specs.Commands.{load_words}
use Rattle.cb_session.proofs.Words.{too_many-2}
use Rattle.cb_session.proofs.line.load_words.Goals as goal

pub returns-in_default-Some : goal.returns-in_default-Some
returns-in_default-Some c =
    sym (too_many-2 (load_words c.args.limit c.args.purpose) _ (λ a b d words. refl) _ _ _ _ _ _ _ _
    c.in-Some.is
    c.cut_word.ensures.words c.in-Some-rest.is c.cut_word-2.ensures.words c.in_default-Some.is-1)
