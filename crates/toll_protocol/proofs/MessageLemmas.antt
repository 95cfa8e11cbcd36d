-- Messages are read in only one way.
use Rattle.std.proofs.Common.{◌≡◌, ◌∙◌, ℕ, ◌<◌, ◌≤◌, ◌^◌, List, [], ◌++◌, length, Option, None, Some, sym, ap, refl, arith, length-append}
use Rattle.toll_protocol.proofs.Common.{IsCall, IsResponse, call_text, file_text, response_text, words_text}
use Rattle.toll_protocol.specs.Frames.{HasFrame, IsFrameOf, frame}
use Rattle.toll_protocol.specs.declared.frames.call.TheConstants.{MOST_CALL_BYTES}
use Rattle.toll_protocol.proofs.FrameLemmas.{one_held, one_parcel}
use Rattle.toll_protocol.proofs.WordLemmas.{one_list_of_words}

-- A text is the frame of only one content.
pub one_content : (most : ℕ) (text a b : List ℕ) → most < 2 ^ 32 → IsFrameOf most text a → IsFrameOf most text b → a ≡ b
one_content most text a b short p q =
    let same : frame a ++ [] ≡ frame b ++ [] = ap (λ t. t ++ []) (sym p.0 ∙ q.0) in
    (one_parcel a b [] [] (omega (arith, p.1)) (omega (arith, q.1)) same).0

one_file : (file other : Option (List ℕ)) → file_text file ≡ file_text other → file ≡ other
one_file None None same = refl
one_file None (Some other) same = absurd cc
one_file (Some file) None same = absurd cc
one_file (Some file) (Some other) same = cc

words_short : (words : List (List ℕ)) (file : Option (List ℕ)) → length (words_text words) ≤ length (call_text words file)
words_short words file = omega (arith, length-append (words_text words) (file_text file))

pub one_call : (text : List ℕ) (words others : List (List ℕ)) (file another : Option (List ℕ)) → IsCall text words file → IsCall text others another
    → (words ≡ others) × (file ≡ another)
one_call text words others file another p q =
    let same = one_content _ text (call_text words file) (call_text others another) (omega arith) p.1 q.1 in
    let (texts, files) = one_parcel (words_text words) (words_text others) (file_text file) (file_text another)
    (omega (arith, p.1.1, words_short words file)) (omega (arith, q.1.1, words_short others another)) same in
    (one_list_of_words words others p.0 q.0 texts, one_file file another files)

-- The parts of a call are those in its text.
pub call_parts : (text content front rest : List ℕ) (words : List (List ℕ)) (file : Option (List ℕ)) → IsFrameOf MOST_CALL_BYTES text content
    → HasFrame MOST_CALL_BYTES content front rest → IsCall text words file → (front ≡ words_text words) × (rest ≡ file_text file)
call_parts text content front rest words file is held requested =
    let same : content ≡ call_text words file = one_content _ text content (call_text words file) (omega arith) is requested.1 in
    one_held _ content front (words_text words) rest (file_text file) (omega arith) held (same, omega (arith, requested.1.1, words_short words file))

output_is_short : (status : ℕ) (output error : List ℕ) → length output ≤ length (response_text status output error)
output_is_short status output error = omega (arith, length-append output error)

pub one_response : (text : List ℕ) (status other : ℕ) (output error another wrong : List ℕ) → IsResponse text status output error → IsResponse text other another wrong
    → (status ≡ other) × (output ≡ another) × (error ≡ wrong)
one_response text status other output error another wrong p q =
    let same = one_content _ text (response_text status output error) (response_text other another wrong) (omega arith) p q in
    let rest : frame output ++ error ≡ frame another ++ wrong = cc in
    let (outputs, errors) = one_parcel output another error wrong
    (omega (arith, p.1, output_is_short status output error)) (omega (arith, q.1, output_is_short other another wrong)) rest in
    (cc, outputs, errors)
