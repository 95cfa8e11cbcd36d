use Rattle.std.proofs.Common.{rules, inr}
use Rattle.toll_programs.proofs.scripts.script.Goals as goal

pub returns-in_default-printed : goal.returns-in_default-printed
returns-in_default-printed g c = record {
  done = search rules;
  cut_short = search rules;
  memory = λ is. inr (record {
    input = c.in-Ok.text.items;
    whole = c.in-Ok.ensures.whole;
    answers = c.in-Ok-run_events.answers.items;
    runs = record {
      events = c.in-Ok-events_of.events.items;
      requested = search rules;
      ran = record { served = search rules; run = search rules };
    };
  });
  honest = c.run_events.ensures.honest;
  bad_line = search rules;
  too_long = search rules;
  read_fault = search rules;
  no_read_fault = search rules;
  write_fault = search rules;
  silent = search rules;
  idle = search rules;
}
