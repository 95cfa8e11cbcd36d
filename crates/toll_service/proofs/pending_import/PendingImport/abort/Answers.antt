use Rattle.std.proofs.Common.{◌∙◌, ap, is_none, subst}
use Rattle.toll_files.specs.Faults.{fault_text}
use Rattle.toll_programs.specs.Outputs.{IsStoppedImportPrintout, printout_of}
use Rattle.toll_service.proofs.PlantTurns.{turn_aborted}
use Rattle.toll_service.proofs.pending_import.PendingImport.abort.Goals as goal

pub returns : goal.returns
returns c =
    let p = printout_of c.output_of_stopped_import-done.result in
    let lines = c.into_report-report.ensures.lines ∙ ap (λ i. i.lines) c.self.view_is in
    turn_aborted c.args.self.lines (fault_text c.args.fault) c.write.result.poll (is_none c.write.result.fault) p
    (subst (λ shown. IsStoppedImportPrintout shown (fault_text c.args.fault) p) lines (subst (λ why. IsStoppedImportPrintout c.into_report-report.result.lines.items why p) c.line.ensures c.output_of_stopped_import-done.ensures)) c.write.ensures.frame
