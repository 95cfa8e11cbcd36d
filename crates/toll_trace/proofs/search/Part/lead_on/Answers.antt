use Rattle.std.proofs.Common.{◌∙◌, length, refl, ap, arith}
use Rattle.toll_trace.proofs.Common.{with_items_is, AreMarked}
use Rattle.toll_trace.proofs.Marks.{walked_marked}
use Rattle.toll_trace.proofs.Walks.{led_below}
use Rattle.toll_trace.proofs.search.Part.lead_on.Goals as goal

pub mark-requires : goal.mark-requires
mark-requires c = rw (c.deref.ensures.value, c.deref_mut.ensures.value, c.requires.sound.marks) c.requires.sound.front

pub led_on-requires-clause-within : goal.led_on-requires-clause-within
led_on-requires-clause-within c =
    let marks_are = c.deref-2.ensures.value ∙ with_items_is c.args.self.now.marks c.mark.new.marks (omega arith) in
    let marked : AreMarked c.args.self.now.marks.items c.args.self.now.front.items c.mark.new.marks = rw (← c.deref_mut.ensures.value, ← c.deref.ensures.value) c.mark.ensures in
    rw (marks_are, marked.sized, c.requires.sound.marks) c.requires.sound.targets

pub led_on-requires-clause-walked : goal.led_on-requires-clause-walked
led_on-requires-clause-walked c =
    let marks_are = c.deref-2.ensures.value ∙ with_items_is c.args.self.now.marks c.mark.new.marks (omega arith) in
    let marked : AreMarked c.args.self.now.marks.items c.args.self.now.front.items c.mark.new.marks = rw (← c.deref_mut.ensures.value, ← c.deref.ensures.value) c.mark.ensures in
    rw (marks_are, c.deref_mut-2.ensures.value) (walked_marked c.args.self.now.joints.now.targets.items c.args.self.now.lows.items c.args.self.now.front.items c.args.self.now.marks.items c.mark.new.marks c.requires.walked marked)

pub add_lots-requires : goal.add_lots-requires
add_lots-requires c = rw c.deref-4.ensures.value (led_below _ _ _ _ _ _ (length c.args.self.now.lots.now) c.requires.sound.targets c.in_ok-numbers.ensures.led)

pub returns : goal.returns
returns c =
    let marks_are = with_items_is c.args.self.now.marks c.mark.new.marks (omega arith) in
    let lows_are = with_items_is c.args.self.now.lows c.led_on.new.lows (omega arith) in
    let marks_read = c.deref-2.ensures.value ∙ marks_are in
    let marked : AreMarked c.args.self.now.marks.items c.args.self.now.front.items c.mark.new.marks = rw (← c.deref_mut.ensures.value, ← c.deref.ensures.value) c.mark.ensures in
    record {
      same_lots = refl;
      same_joints = refl;
      sound = record {
        sorted = c.requires.sound.sorted;
        targets = c.requires.sound.targets;
        front = led_below _ _ _ _ _ _ (length c.args.self.now.lots.now) c.requires.sound.targets c.in_ok-numbers.ensures.led;
        marks = rw marks_are (marked.sized ∙ c.requires.sound.marks);
        lows = rw lows_are (c.in_ok-numbers.ensures.sized ∙ ap length c.deref_mut-2.ensures.value ∙ c.requires.sound.lows);
      };
      marked = rw marks_are marked;
      led = rw (marks_are, lows_are, ← marks_read, ← c.deref-3.ensures.value) c.in_ok-numbers.ensures.led;
      added = rw (← c.deref-4.ensures.value) c.in_ok-add_lots.ensures;
    }
