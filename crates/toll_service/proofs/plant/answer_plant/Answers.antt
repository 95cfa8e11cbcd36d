use Rattle.std.proofs.Common.{◌∙◌, ap, is_none, map, option_map, rules, subst, sym}
use Rattle.toll_protocol.specs.PlantMessages.{IsCall}
use Rattle.toll_programs.specs.Outputs.{printout_of}
use Rattle.toll_service.specs.Listeners.{IsRequestedDone}
use Rattle.toll_service.specs.Requested.{requested_by_words}
use Rattle.toll_service.proofs.PlantTurns.{import_turn, plant_turn, turn_met}
use Rattle.toll_service.proofs.plant.answer_plant.Goals as goal

pub returns-in-Some-import_in-clause-served : goal.returns-in-Some-import_in-clause-served
returns-in-Some-import_in-clause-served g c =
    let read = c.in-Some.call in
    let asks : IsCall c.args.bytes.now (map (λ word. word.now) read.words.items) (option_map (λ file. file.now) read.file) = search rules in
    import_turn g.K.Keep.meaning c.args.keep.now c.args.bytes.now c.begin.result.poll (is_none c.begin.result.fault) _ _ c.in-Some-import_in.file.now asks c.in-Some-import_in.ensures.some c.begin.ensures.begins

pub returns-clause-served : goal.returns-clause-served
returns-clause-served g c =
    let read = c.in-Some.call in
    let p = printout_of c.in_ok-done-in-None.done in
    let asks : IsCall c.args.bytes.now (map (λ word. word.now) read.words.items) (option_map (λ file. file.now) read.file) = search rules in
    let wants = c.in-None.ensures.none ∙ ap (λ words. requested_by_words (map (λ w. w.now) words)) (sym c.deref.ensures.value) in
    plant_turn g.K.Keep.meaning c.args.keep.now c.execute_words.new.keep c.args.bytes.now c.write.result.poll (is_none c.write.result.fault) _ _ p asks
    (subst (λ wanted. IsRequestedDone g.K.Keep.meaning c.args.keep.now c.execute_words.new.keep wanted p) (sym wants) c.in_ok-done-in-None.ensures.done) c.write.ensures.frame

pub returns-clause-met : goal.returns-clause-met
returns-clause-met g c =
    turn_met g.K.Keep.meaning c.args.keep.now c.execute_words.new.keep c.write.result.poll (printout_of c.in_ok-done-in-None.done) c.in_ok-done-in-None.done.fault c.write.result.fault
    c.in_ok-done-in-None.ensures.fault c.write.ensures.met
