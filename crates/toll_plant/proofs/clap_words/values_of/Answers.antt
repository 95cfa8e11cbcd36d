use Rattle.std.proofs.Common.{◌∙◌, ap, map}
use Rattle.clap.specs.Words.{app_of}
use Rattle.toll_plant.specs.Shown.{shown_line, shown_argument}
use Rattle.toll_plant.proofs.Common.{length-map}
use Rattle.toll_plant.proofs.ClapLemmas.{values_matched, in_ok, word_none_found, some_found, line_is_taken}
use Rattle.toll_plant.proofs.clap_words.values_of.Goals as goal

pub unreachable-requires : goal.unreachable-requires
unreachable-requires c =
    let long = length-map c.args.line.now.values.now shown_argument in
    c.in_default.not-OutOfMemory (c.kind.ensures ∙ c.in-Err.ensures.passes
    (line_is_taken (app_of c.in_ok-command.command) (shown_line c.args.line.now) _ (rw long c.in_ok-command.ensures) (rw long c.requires.some) c.requires.fits))

pub unreachable-requires-in-None : goal.unreachable-requires-in-None
unreachable-requires-in-None c =
    let long = length-map c.args.line.now.values.now shown_argument in
    word_none_found _ _
    (values_matched (app_of c.in_ok-command.command) (shown_line c.args.line.now) _ c.in-Ok.matches (rw long c.in_ok-command.ensures) (rw long c.requires.some) c.requires.fits c.in-Ok.ensures.matches)
    c.in-None.ensures

pub returns : goal.returns
returns c =
    let long = length-map c.args.line.now.values.now shown_argument in
    let same = some_found _ _ _
    (values_matched (app_of c.in_ok-command.command) (shown_line c.args.line.now) _ c.in-Ok.matches (rw long c.in_ok-command.ensures) (rw long c.requires.some) c.requires.fits c.in-Ok.ensures.matches)
    c.in-Some.ensures in
    in_ok c.from_slice.result _ _ (λ values copied. ap (map (λ v. v.now)) copied ∙ same) c.from_slice.ensures.items
