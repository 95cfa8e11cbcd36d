use Rattle.std.proofs.Common.{inl, refl}
use Rattle.toll_keep.specs.Content.{empty_content}
use Rattle.toll_opener.proofs.scripts.do_script.Goals as goal

pub returns-in-Ok : goal.returns-in-Ok
returns-in-Ok g c = inl (record {
  first = c.new.result;
  last = c.script.new.keep;
  opened = (c.new.ensures.holds empty_content).1 ((λ live. c.in-Ok.ensures.holds.0), (λ o unknown. refl));
  run = c.script.ensures;
})
