use Rattle.std.proofs.Common.{◌≡◌, sym, ◌∙◌, length, rules}
use Rattle.toll_files.proofs.LogLemmas.{known_if, no_frame_left, other_salts, own_frame, salts_agree, salts_differ}
use Rattle.toll_files.proofs.log_end.frame_header_at.Goals.{then-not-is_whole-via-then-not-is_whole, then-not-is_whole-via-else-not-is_whole+then-ne}
use Rattle.toll_files.proofs.log_end.frame_header_at.Goals as goal

pub returns-then-not-is_whole : goal.returns-then-not-is_whole
returns-then-not-is_whole g c =
    let len : length c.fill_at.new.buffer ≡ 24 = search rules in
    elim (c.then-not-is_whole.branch) [
      | then-not-is_whole-via-then-not-is_whole w ↦
          known_if _ _ _ (λ bytes. no_frame_left _ _ bytes _ _ _ c.place_of.ensures len _ w.if-not-is_whole.true) c.in_ok-is_whole.ensures.filled
      | then-not-is_whole-via-else-not-is_whole+then-ne w ↦
          let differ = salts_differ _ _ (sym w.if-ne.true ∙ w.ne.ensures) in
          known_if _ _ _ (λ bytes. other_salts _ _ bytes _ _ _ c.place_of.ensures len _ w.if-not-is_whole.false differ) c.in_ok-is_whole.ensures.filled
    ]

pub returns : goal.returns
returns g c =
    let len : length c.fill_at.new.buffer ≡ 24 = search rules in
    let agree = salts_agree _ _ c.if-ne.ensures in
    known_if _ _ _ (λ bytes. own_frame _ _ bytes _ _ _ c.place_of.ensures len _ c.if-not-is_whole.false agree) c.in_ok-is_whole.ensures.filled
