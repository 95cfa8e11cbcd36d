use Rattle.std.proofs.Common.{is_none, subst}
use Rattle.toll_plant.specs.ImportStates.{IsResumed}
use Rattle.toll_programs.specs.Outputs.{printout_of}
use Rattle.toll_service.proofs.PlantTurns.{import_met, report_turn}
use Rattle.toll_service.proofs.pending_import.PendingImport.resume.Goals as goal

pub returns-then-is_over-clause-resumed : goal.returns-then-is_over-clause-resumed
returns-then-is_over-clause-resumed g c =
    let K = g.K.Keep in
    record {
      now = c.resume.new.self;
      resumed = subst (λ was. IsResumed K.meaning c.args.keep.now c.resume.new.keep was c.resume.new.self) c.self.view_is c.resume.ensures;
      comes = report_turn c.resume.new.self c.write.result.poll (is_none c.write.result.fault) c.into_report.result (printout_of c.output_of_import-done.result) (c.is_over.ensures.0 c.if-is_over.true)
          c.into_report.ensures.lines c.into_report.ensures.numbered c.output_of_import-done.ensures.printed c.write.ensures.frame;
    }

pub returns-then-is_over-clause-met : goal.returns-then-is_over-clause-met
returns-then-is_over-clause-met g c =
    let K = g.K.Keep in
    import_met K.meaning c.args.keep.now c.resume.new.keep c.args.self c.resume.new.self c.into_report.result c.write.result.poll (printout_of c.output_of_import-done.result)
    c.output_of_import-done.result.fault c.write.result.fault
    (subst (λ was. IsResumed K.meaning c.args.keep.now c.resume.new.keep was c.resume.new.self) c.self.view_is c.resume.ensures)
    c.into_report.ensures.lines c.output_of_import-done.ensures.fault c.write.ensures.met
