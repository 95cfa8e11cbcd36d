use Rattle.std.proofs.Common.{◌≡◌, ◌∙◌, List, Some, map, ap, subst}
use Rattle.std.proofs.lemmas.Str.{is_utf8-from_IsUtf8}
use Rattle.toll_base.specs.Bytes.{Bytes}
use Rattle.toll_plant.specs.Words.{command_of_words}
use Rattle.toll_programs.specs.Script.{words_in}
use Rattle.toll_programs.proofs.LineLemmas.{command_given, bad_if_no_text}
use Rattle.toll_programs.proofs.events.plant_of.Goals as goal

pub returns-in_default : goal.returns-in_default
returns-in_default c = bad_if_no_text c.args.line.now c.in_default.ensures.cases.0

pub returns-in-Ok-command_of : goal.returns-in-Ok-command_of
returns-in-Ok-command_of c =
    let given = ap (map (λ w. w.now)) c.deref.ensures.value in
    let requested = subst (λ (words : List Bytes). command_of_words words ≡ Some c.in-Ok-command_of.command) given c.in-Ok-command_of.ensures.command in (
      command_given c.args.line.now _ c.in-Ok-command_of.command c.in-Ok.ensures.cases.1
          (c.in-Ok-words_of.ensures ∙ ap words_in c.in-Ok.ensures.cases.0) requested,
      is_utf8-from_IsUtf8 c.args.line.now c.in-Ok.ensures.cases.1,
    )

pub returns-in_default-words_of : goal.returns-in_default-words_of
returns-in_default-words_of c = is_utf8-from_IsUtf8 c.args.line.now c.in-Ok.ensures.cases.1

pub returns-in-Err-Memory : goal.returns-in-Err-Memory
returns-in-Err-Memory c = is_utf8-from_IsUtf8 c.args.line.now c.in-Ok.ensures.cases.1
