use Rattle.std.proofs.Common.{rules, ◌≡◌, ℕ, ◌+◌, ◌++◌, ◌≤◌, true, length, take, sym, ◌∙◌, ap}
use Rattle.std.proofs.lemmas.List.{take_all}
use Rattle.std.specs.Int.{w32, to_be_bytes}
use Rattle.std.specs.Prelude.{codes}
use Rattle.sqlite_wal.specs.Format.{checksum}
use Rattle.sqlite_wal.specs.PageSize.{bytes_of}
use Rattle.toll_files.proofs.MarkLemmas.{on, regrouped}
use Rattle.toll_files.specs.MarkBytes.{stamp_bytes, sum_bytes, summed_bytes}
use Rattle.toll_files.proofs.log_mark.LogMark.to_bytes.Goals as goal

pub returns : goal.returns
returns c =
    let database = c.args.self.now.database in
    let end = c.args.self.now.end in
    let len : length end.salts ≡ 8 = search rules in
    let name : take 8 c.put.new.bytes ≡ codes "log end1" = c.put.ensures.put in
    let stamp : take 56 c.put_time-2.new.bytes ≡ codes "log end1" ++ stamp_bytes database =
    c.put_time-2.ensures.put ∙ on _ (c.put_time.ensures.put ∙ on _ (c.put64-2.ensures.put ∙ on _ (c.put64.ensures.put ∙ on _ name))) in
    let salts : take 64 c.put-2.new.bytes ≡ (codes "log end1" ++ stamp_bytes database) ++ end.salts =
    ap (λ (n : ℕ). take (56 + n) c.put-2.new.bytes) (sym len) ∙ c.put-2.ensures.put ∙ on _ stamp in
    let frames = to_be_bytes w32 end.frames in
    let size = to_be_bytes w32 (bytes_of end.page_size) in
    let front = codes "log end1" ++ stamp_bytes database in
    let size_put : take 72 c.put32-2.new.bytes ≡ ((front ++ end.salts) ++ frames) ++ size =
    c.put32-2.ensures.put ∙ ap (λ (n : ℕ). take 68 c.put32.new.bytes ++ to_be_bytes w32 n) c.bytes.ensures.value ∙ on size (c.put32.ensures.put ∙ on frames salts) in
    let grouped : take 80 c.put_sum.new.bytes ≡ (((front ++ end.salts) ++ frames) ++ size) ++ sum_bytes end.sum = c.put_sum.ensures.put ∙ on _ size_put in
    let summed : take 80 c.put_sum.new.bytes ≡ summed_bytes c.args.self.now = grouped ∙ regrouped front end.salts frames size (sum_bytes end.sum) in
    let sum : c.checksum_of-sum.result ≡ checksum true (0, 0) (summed_bytes c.args.self.now) = c.checksum_of-sum.ensures ∙ ap (checksum true (0, 0)) summed in
    let whole : length c.put_sum-2.new.bytes ≤ 88 = search rules in
    sym (take_all 88 _ whole) ∙ c.put_sum-2.ensures.put ∙ on _ summed ∙ ap (λ (s : ℕ × ℕ). summed_bytes c.args.self.now ++ sum_bytes s) sum
