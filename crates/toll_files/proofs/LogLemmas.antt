-- Parts of a log, and what comparisons of them say.
use Rattle.std.proofs.Common.{Bor, ◌-◌, [], ◌≡◌, ◌≢◌, subst, add-one, ℕ, ◌+◌, ◌<◌, ◌≤◌, Bool, true, eqb, List, length, take, drop, sym, refl, ◌∙◌, ap₂, arith, ◌&&◌, not, false, ap, below_more, Option, None, Some}
use Rattle.std.proofs.lemmas.Bool.{eq-eqb, eqb-true, and_parts, and_from, false≢true, not-true, not-false}
use Rattle.std.proofs.lemmas.Slice.Eq.{bytes_eq-Decides}
use Rattle.std.specs.Str.{bytes_eq}
use Rattle.std.specs.Prelude.{IfSome}
use Rattle.std.specs.Slice.{IsGetRangeResult}
use Rattle.std.specs.List.{slice_range}
use Rattle.sqlite_wal.proofs.PartLemmas.{part-part}
use Rattle.sqlite_wal.specs.Format.{IsFrame, part, stored_sum}
use Rattle.sqlite_wal.specs.PageSize.{bytes_of}
use Rattle.sqlite_wal.specs.Recovery.{Passes, frame, frame_at, header, sum_before}
use Rattle.toll_files.specs.declared.log_end.LogEnd.{LogEnd}
use Rattle.toll_files.specs.LogEnds.{IsFilled, IsFrameOf, IsLastCommit, IsReached, NoneCommits, commit_at, frame_header}

pub part_front : (b : List ℕ) (n : ℕ) → part b 0 n ≡ take n b
unfolding part
part_front b n = refl

pub part_is : (b : List ℕ) (a n : ℕ) → part b a n ≡ take n (drop a b)
unfolding part
part_is b a n = refl

abbrev pub pair : ℕ → ℕ → ℕ × ℕ
pair x y = (x, y)

-- what `==` says of two sums
pub same_sums : (r : Bool) (a b : ℕ × ℕ) → r ≡ (eqb a.0 b.0 && eqb a.1 b.1) → (r ≡ true → a ≡ b) × (a ≡ b → r ≡ true)
same_sums r a b is = (
  λ yes'. let both = and_parts _ _ (sym is ∙ yes') in ap₂ pair (eqb-true _ _ both.0) (eqb-true _ _ both.1),
  λ same. is ∙ and_from _ _ (eq-eqb _ _ (ap (λ (p : ℕ × ℕ). p.0) same)) (eq-eqb _ _ (ap (λ (p : ℕ × ℕ). p.1) same)),
)

-- what `!=` says of a frame's salts
pub salts_differ : (salts frame : List ℕ) → true ≡ not (bytes_eq (take 8 (drop 8 frame)) salts) → part frame 8 8 ≢ salts
unfolding part
salts_differ salts frame is same = false≢true (sym (not-true _ (sym is)) ∙ (bytes_eq-Decides _ _).1 same)

pub salts_agree : (salts frame : List ℕ) → false ≡ not (bytes_eq (take 8 (drop 8 frame)) salts) → part frame 8 8 ≡ salts
unfolding part
salts_agree salts frame is = (bytes_eq-Decides _ _).0 (not-false _ (sym is))

-- what is known of a file's bytes, if they are known
pub known_if : (P R : List ℕ → Type 0) (o : Option (List ℕ)) → ((bytes : List ℕ) → P bytes → R bytes) → IfSome o P → IfSome o R
known_if P R None h known = tt
known_if P R (Some bytes) h known = h bytes known

pub both_known : (P Q R : List ℕ → Type 0) (o : Option (List ℕ)) → ((bytes : List ℕ) → P bytes → Q bytes → R bytes) → IfSome o P → IfSome o Q → IfSome o R
both_known P Q R None h one other = tt
both_known P Q R (Some bytes) h one other = h bytes one other

-- nothing was read ahead
pub none_ahead : (o : Option (List ℕ)) → IfSome o (λ bytes. IsFilled bytes 0 true [])
unfolding part
none_ahead None = tt
none_ahead (Some bytes) = (omega arith, refl)

-- a part of what was read ahead
piece_ahead : (bytes ahead piece : List ℕ) (from at begun done : ℕ) → IsFilled bytes from true ahead → at ≡ from + begun
    → (begun ≤ done) × (done ≤ length ahead) × (piece ≡ slice_range ahead begun done) × (length piece + begun ≡ done) → IsFilled bytes at true piece
unfolding part
piece_ahead bytes ahead piece from at begun done (inside, is) here (low, high, cut, len) =
    let count : done - begun ≡ length piece = omega (arith, len) in (
      omega (arith, inside, here, high, len),
      cut ∙ ap (λ (n : ℕ). take n (drop begun ahead)) count ∙ ap (λ (l : List ℕ). part l begun (length piece)) is
          ∙ part-part bytes from (length ahead) begun (length piece) inside (omega (arith, high, len)) ∙ ap (λ (a : ℕ). part bytes a (length piece)) (sym here),
    )

pub part_ahead : (o : Option (List ℕ)) (ahead : List ℕ) (from at begun done : ℕ) (r : Option (Bor (List ℕ))) → IfSome o (λ bytes. IsFilled bytes from true ahead)
    → at ≡ from + begun → IsGetRangeResult ahead begun done r → IfSome r (λ piece. IfSome o (λ bytes. IsFilled bytes at true piece.now))
part_ahead o ahead from at begun done None read here got = tt
part_ahead o ahead from at begun done (Some piece) read here got = known_if _ _ o (λ bytes filled. piece_ahead bytes ahead piece.now from at begun done filled here got.0) read

module _ (bytes buffer : List ℕ) (at : ℕ) where
  too_short : (is_whole : Bool) → is_whole ≡ false → IsFilled bytes at is_whole buffer → length bytes < at + length buffer
  too_short true is filled = absurd (cc is)
  too_short false is filled = filled

  in_full : (is_whole : Bool) → is_whole ≡ true → IsFilled bytes at is_whole buffer → (at + length buffer ≤ length bytes) × (buffer ≡ part bytes at (length buffer))
  in_full true is filled = filled
  in_full false is filled = absurd (cc is)

module _ (page_bytes : ℕ) (salts bytes : List ℕ) where
  -- one more frame, which doesn't commit
  none_more : (begun n : ℕ) → NoneCommits page_bytes salts bytes begun n → commit_at page_bytes salts bytes n ≡ 0 → NoneCommits page_bytes salts bytes begun (n + 1)
  none_more begun n none here i low high =
      below_more (λ k. begun ≤ k → commit_at page_bytes salts bytes k ≡ 0) n (λ k below above. none k above below) (λ above. here) i high low

  pub last_stays : (n : ℕ) (end : Option LogEnd) → IsLastCommit page_bytes salts bytes n end → commit_at page_bytes salts bytes n ≡ 0
      → IsLastCommit page_bytes salts bytes (n + 1) end
  last_stays n None none here = none_more 0 n none here
  last_stays n (Some end) (commit, within, none) here = (commit, omega (arith, within), none_more end.frames n none here)

  module _ (buffer : List ℕ) (at i : ℕ) (here : at ≡ frame_at page_bytes i) (len : length buffer ≡ 24) (is_whole : Bool) where
    pub no_frame_left : is_whole ≡ false → IsFilled bytes at is_whole buffer → ¬ IsFrameOf page_bytes salts bytes i
    no_frame_left is filled frame =
        let short = too_short bytes buffer at is_whole is filled in
        let inside = frame.0 in omega arith

    header_is : is_whole ≡ true → IsFilled bytes at is_whole buffer → (frame_at page_bytes i + 24 ≤ length bytes) × (buffer ≡ frame_header page_bytes salts bytes i)
    header_is is filled =
        let full = in_full bytes buffer at is_whole is filled in
        let inside = full.0 in
        (omega arith, full.1 ∙ ap₂ (part bytes) here len)

    pub other_salts : is_whole ≡ true → part buffer 8 8 ≢ salts → IsFilled bytes at is_whole buffer → ¬ IsFrameOf page_bytes salts bytes i
    other_salts is differ filled frame = differ (ap (λ (h : List ℕ). part h 8 8) (header_is is filled).1 ∙ frame.1)

    pub own_frame : is_whole ≡ true → part buffer 8 8 ≡ salts → IsFilled bytes at is_whole buffer
        → IsFrameOf page_bytes salts bytes i × (buffer ≡ frame_header page_bytes salts bytes i)
    own_frame is agree filled =
        let it = header_is is filled in ((it.0, ap (λ (h : List ℕ). part h 8 8) (sym it.1) ∙ agree), it.1)

-- one more frame that SQLite takes
pub one_more_passes : (page_bytes : ℕ) (head bytes buffer : List ℕ) (sum after : ℕ × ℕ) (at i : ℕ) (is_whole : Bool)
    → at ≡ frame_at page_bytes i → length buffer ≡ 24 + page_bytes → is_whole ≡ true → IsFrame head sum buffer → after ≡ stored_sum buffer 16
    → (head ≡ header bytes → ((k : ℕ) → k < i → Passes page_bytes bytes k) × (sum_before page_bytes bytes i ≡ sum))
    → IsFilled bytes at is_whole buffer
    → head ≡ header bytes → ((k : ℕ) → k < i + 1 → Passes page_bytes bytes k) × (sum_before page_bytes bytes (i + 1) ≡ after)
one_more_passes page_bytes head bytes buffer sum after at i is_whole here len is passes next before filled same =
    let full = in_full bytes buffer at is_whole is filled in
    let inside = full.0 in
    let frame_is : buffer ≡ frame page_bytes bytes i = full.1 ∙ ap₂ (part bytes) here len in
    let so_far = before same in
    let moved = subst (λ (f : List ℕ). IsFrame (header bytes) (sum_before page_bytes bytes i) f) frame_is
    (subst (λ (s : ℕ × ℕ). IsFrame (header bytes) s buffer) (sym so_far.1) (subst (λ (h : List ℕ). IsFrame h sum buffer) same passes)) in (
      below_more (Passes page_bytes bytes) i so_far.0 (record { within = omega arith; passes = moved }),
      ap (sum_before page_bytes bytes) (add-one i) ∙ ap (λ (f : List ℕ). stored_sum f 16) (sym frame_is) ∙ sym next,
    )

-- whether the end is reached
pub is_reached : (head bytes : List ℕ) (end : LogEnd) (sum : ℕ × ℕ) (i : ℕ) (r : Bool) → i ≡ end.frames
    → r ≡ (eqb sum.0 end.sum.0 && eqb sum.1 end.sum.1)
    → (head ≡ header bytes → ((k : ℕ) → k < i → Passes (bytes_of end.page_size) bytes k) × (sum_before (bytes_of end.page_size) bytes i ≡ sum))
    → head ≡ header bytes → (r ≡ true → IsReached bytes end) × (IsReached bytes end → r ≡ true)
is_reached head bytes end sum i r all is before same =
    let so_far = before same in
    let decides = same_sums r sum end.sum is in
    let at_end = ap (sum_before (bytes_of end.page_size) bytes) (sym all) ∙ so_far.1 in (
      λ yes'. (λ k low. so_far.0 k (omega (arith, low, all)), at_end ∙ decides.0 yes'),
      λ reached. decides.1 (sym at_end ∙ reached.1),
    )
