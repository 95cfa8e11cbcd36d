-- Parts of a mark's bytes, as they are put and read one after another.
use Rattle.std.proofs.Common.{◌≡◌, ◌<◌, ◌^◌, ℕ, ℤ, SFits, of_z, to_z, refl, ◌+◌, true, List, ◌++◌, length, take, drop, sym, subst, ◌∙◌, ap, ap₂, arith, append_assoc}
use Rattle.std.proofs.Math.Seq.{drop-append-add, take-add, take-append_seam}
use Rattle.std.proofs.lemmas.List.{drop-drop, length-append}
use Rattle.std.proofs.lemmas.Int.{to_z-of_z}
use Rattle.std.proofs.Math.Facts.{Fits-of_z}
use Rattle.std.proofs.lemmas.Nat.{from_be_bytes-to_be_bytes_4, from_be_bytes-to_be_bytes_8}
use Rattle.std.specs.Int.{w32, w64, from_be_bytes, to_be_bytes}
use Rattle.std.specs.Prelude.{codes}
use Rattle.sqlite_wal.specs.Format.{checksum, part}
use Rattle.sqlite_wal.specs.PageSize.{IsPageSize, bytes_of}
use Rattle.toll_files.specs.MarkBytes.{AreInRange, IsSameEnd, IsSameMark, end_bytes, mark_bytes, stamp_bytes, sum_bytes, summed_bytes, time_bytes}
use Rattle.toll_files.specs.LogMarks.{IsFileAsMarked}
use Rattle.toll_files.specs.declared.log_mark.LogMark.{LogMark}

-- two parts side by side
pub two_parts : (b x y : List ℕ) (at n m : ℕ) → x ≡ part b at n → y ≡ part b (at + n) m → x ++ y ≡ part b at (n + m)
unfolding part
two_parts b x y at n m first second =
    ap₂ (λ (p q : List ℕ). p ++ q) first (second ∙ ap (take m) (sym (drop-drop _ _ b))) ∙ sym (take-add n m (drop at b))

-- two parts that were put one after the other
pub put_two : (first second third x y : List ℕ) (at n m : ℕ) → take (at + n) second ≡ take at first ++ x → take (at + n + m) third ≡ take (at + n) second ++ y
    → take (at + (n + m)) third ≡ take at first ++ (x ++ y)
put_two first second third x y at n m one two =
    let place : at + (n + m) ≡ at + n + m = omega arith in
    ap (λ (k : ℕ). take k third) place ∙ two ∙ ap (λ (p : List ℕ). p ++ y) one ∙ append_assoc (take at first) x y

-- one more part behind what is known
pub on : {front known : List ℕ} (more : List ℕ) → front ≡ known → front ++ more ≡ known ++ more
on more is = ap (λ (p : List ℕ). p ++ more) is

pub regrouped : (front a b c d : List ℕ) → (((front ++ a) ++ b) ++ c) ++ d ≡ front ++ (a ++ (b ++ (c ++ d)))
regrouped front a b c d = append_assoc _ c d ∙ append_assoc _ b (c ++ d) ∙ append_assoc front a (b ++ (c ++ d))

-- the front of two lists side by side
front_of : (xs ys : List ℕ) (n : ℕ) → length xs ≡ n → take n (xs ++ ys) ≡ xs
front_of xs ys n len = ap (λ (k : ℕ). take k (xs ++ ys)) (sym len) ∙ take-append_seam xs ys

back_of : (xs ys : List ℕ) (n m : ℕ) → length xs ≡ n → drop (n + m) (xs ++ ys) ≡ drop m ys
back_of xs ys n m len = ap (λ (k : ℕ). drop (k + m) (xs ++ ys)) (sym len) ∙ drop-append-add xs ys m

-- what stands behind the salts in a mark, and its checksum
abbrev tail_of : LogMark → List ℕ
tail_of mark = to_be_bytes w32 mark.end.frames ++ (to_be_bytes w32 (bytes_of mark.end.page_size) ++ sum_bytes mark.end.sum)

abbrev last_of : LogMark → List ℕ
last_of mark = sum_bytes (checksum true (0, 0) (summed_bytes mark))

mark_len : (mark : LogMark) → length (mark_bytes mark) ≡ length mark.end.salts + 80
mark_len mark =
    let front = codes "log end1" ++ stamp_bytes mark.database in
    let end = mark.end.salts ++ tail_of mark in
    let outer : length (mark_bytes mark) ≡ length (summed_bytes mark) + 8 = length-append (summed_bytes mark) (last_of mark) in
    let middle : length (summed_bytes mark) ≡ 56 + length end = length-append front end in
    let inner : length end ≡ length mark.end.salts + 16 = length-append _ (tail_of mark) in
    omega arith

whole_mark : (mark : LogMark) → length mark.end.salts ≡ 8 → length (mark_bytes mark) ≡ 88
whole_mark mark len = omega (arith, mark_len mark)

-- what stands where in a mark's bytes
module _ (mark : LogMark) (bytes : List ℕ) (is : bytes ≡ mark_bytes mark) (whole : length bytes ≡ 88) where
  pub salts_len : length mark.end.salts ≡ 8
  salts_len =
      let all : length (mark_bytes mark) ≡ 88 = ap (λ (b : List ℕ). length b) (sym is) ∙ whole in
      omega (arith, mark_len mark)

  pub stamp_is : stamp_bytes mark.database ≡ part bytes 8 48
  unfolding part
  stamp_is = ap (λ (b : List ℕ). take 48 (drop 8 b)) (sym is)

  pub end_is : end_bytes mark.end ≡ part bytes 56 24
  unfolding part
  end_is =
      let inner : length (mark.end.salts ++ (tail_of mark)) ≡ length mark.end.salts + 16 = length-append _ (tail_of mark) in
      let len : length (mark.end.salts ++ (tail_of mark)) ≡ 24 = omega (arith, salts_len) in
      sym (ap (λ (b : List ℕ). take 24 (drop 56 b)) is ∙ front_of (mark.end.salts ++ (tail_of mark)) (last_of mark) 24 len)

  page_part : part bytes 68 4 ≡ to_be_bytes w32 (bytes_of mark.end.page_size)
  unfolding part
  page_part =
      ap (λ (b : List ℕ). take 4 (drop 68 b)) is ∙ ap (λ (b : List ℕ). take 4 (drop 12 b)) (append_assoc mark.end.salts (tail_of mark) (last_of mark))
      ∙ ap (take 4) (back_of mark.end.salts ((tail_of mark) ++ (last_of mark)) 8 4 salts_len)

  pub page_is : from_be_bytes w32 (part bytes 68 4) ≡ bytes_of mark.end.page_size
  page_is =
      let most = mark.end.page_size.largest in
      ap (from_be_bytes w32) page_part ∙ from_be_bytes-to_be_bytes_4 (bytes_of mark.end.page_size) (omega (arith, most))

  pub page_may_be : IsPageSize (from_be_bytes w32 (part bytes 68 4))
  page_may_be =
      let size = mark.end.page_size in
      subst IsPageSize (sym page_is) (size.smallest, size.largest, size.power, size.aligned)

-- the bytes of marks with the same fields
pub same_bytes : (a b : LogMark) → stamp_bytes a.database ≡ stamp_bytes b.database → end_bytes a.end ≡ end_bytes b.end → mark_bytes a ≡ mark_bytes b
same_bytes a b database end =
    let summed = ap₂ (λ (s e : List ℕ). codes "log end1" ++ (s ++ e)) database end in
    ap (λ (s : List ℕ). s ++ sum_bytes (checksum true (0, 0) s)) summed

-- numbers with the same bytes
same_64 : (n m : ℕ) → n < 2 ^ 64 → m < 2 ^ 64 → to_be_bytes w64 n ≡ to_be_bytes w64 m → n ≡ m
same_64 n m low low_too same = sym (from_be_bytes-to_be_bytes_8 n low) ∙ ap (from_be_bytes w64) same ∙ from_be_bytes-to_be_bytes_8 m low_too

same_32 : (n m : ℕ) → n < 2 ^ 32 → m < 2 ^ 32 → to_be_bytes w32 n ≡ to_be_bytes w32 m → n ≡ m
same_32 n m low low_too same = sym (from_be_bytes-to_be_bytes_4 n low) ∙ ap (from_be_bytes w32) same ∙ from_be_bytes-to_be_bytes_4 m low_too

same_signed : (x y : ℤ) → SFits w64 x → SFits w64 y → to_be_bytes w64 (of_z w64 x) ≡ to_be_bytes w64 (of_z w64 y) → x ≡ y
same_signed x y fits fits_too same =
    let bits = same_64 (of_z w64 x) (of_z w64 y) (Fits-of_z fits).fits (Fits-of_z fits_too).fits same in
    sym (to_z-of_z w64 x fits) ∙ ap (to_z w64) bits ∙ to_z-of_z w64 y fits_too

same_time : (a b : ℤ × ℤ) → SFits w64 a.0 × SFits w64 a.1 → SFits w64 b.0 × SFits w64 b.1 → time_bytes a ≡ time_bytes b → a ≡ b
same_time a b fits fits_too same =
    ap₂ (λ (x y : ℤ). (x, y)) (same_signed a.0 b.0 fits.0 fits_too.0 (ap (take 8) same)) (same_signed a.1 b.1 fits.1 fits_too.1 (ap (drop 8) same))

module _ (a b : LogMark) (fit : AreInRange a) (fit_too : AreInRange b) where
  same_stamp : stamp_bytes a.database ≡ stamp_bytes b.database → IsFileAsMarked a b.database
  same_stamp same = (
    same_64 _ _ fit.inode fit_too.inode (ap (take 8) same),
    same_64 _ _ fit.bytes fit_too.bytes (ap (λ (x : List ℕ). take 8 (drop 8 x)) same),
    same_time _ _ fit.written fit_too.written (ap (λ (x : List ℕ). take 16 (drop 16 x)) same),
    same_time _ _ fit.changed fit_too.changed (ap (λ (x : List ℕ). drop 32 x) same),
  )

  same_end : end_bytes a.end ≡ end_bytes b.end → IsSameEnd a.end b.end
  same_end same =
      let tail = sym (back_of a.end.salts _ 8 0 fit.salts) ∙ ap (drop 8) same ∙ back_of b.end.salts _ 8 0 fit_too.salts in
      let size = a.end.page_size.largest in
      let size_too = b.end.page_size.largest in (
        sym (front_of a.end.salts _ 8 fit.salts) ∙ ap (take 8) same ∙ front_of b.end.salts _ 8 fit_too.salts,
        same_32 _ _ fit.frames fit_too.frames (ap (take 4) tail),
        same_32 _ _ (omega (arith, size)) (omega (arith, size_too)) (ap (λ (x : List ℕ). take 4 (drop 4 x)) tail),
        ap₂ (λ (x y : ℕ). (x, y)) (same_32 _ _ fit.sum.0 fit_too.sum.0 (ap (λ (x : List ℕ). take 4 (drop 8 x)) tail))
            (same_32 _ _ fit.sum.1 fit_too.sum.1 (ap (λ (x : List ℕ). drop 12 x) tail)),
      )

  pub same_mark : mark_bytes a ≡ mark_bytes b → IsSameMark a b
  same_mark same =
      let whole = whole_mark a fit.salts in
      let whole_too = whole_mark b fit_too.salts in
      let stamp = stamp_is a _ refl whole ∙ ap (λ (x : List ℕ). part x 8 48) same ∙ sym (stamp_is b _ refl whole_too) in
      let end = end_is a _ refl whole ∙ ap (λ (x : List ℕ). part x 56 24) same ∙ sym (end_is b _ refl whole_too) in
      (same_stamp stamp, same_end end)
