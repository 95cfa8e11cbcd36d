-- What a script prints of its answers.
use Rattle.std.specs.Prelude.{List, [], ◌∷◌, ◌++◌, take, drop, codes, decimal, flat_map, nat_eq, if◌then◌else◌}
use Rattle.toll_programs.specs.Common.{starts_with, Bytes, PlantReply, Answer}
use Rattle.toll_base.specs.Refusal.{refusal_code, title_of}
use Rattle.toll_base.specs.declared.refusal.Refusal.{Refusal}
use Rattle.toll_desk.specs.declared.plant_cmd.PlantReply.TheVariants as plant
use Rattle.toll_keep.specs.declared.keep_fault.KeepFault.{KeepFault}
use Rattle.toll_keep.specs.Fault.{fault_word}
use Rattle.toll_wire.specs.OutTexts.{out_bytes}
use Rattle.toll_wire.specs.declared.event.Answer.TheVariants as answer

-- the three digits after `HTTP/1.1 `
abbrev pub status_of : Bytes → Bytes
status_of reply = take 3 (drop 9 reply)

-- the bytes after the first empty line
abbrev pub body_of : Bytes → Bytes
body_of [] = []
body_of (b ∷ rest) = if starts_with nat_eq (b ∷ rest) (codes "\r\n\r\n") then drop 4 (b ∷ rest) else body_of rest

-- a space and the body, if there is one
abbrev pub shown_body : Bytes → Bytes
shown_body [] = []
shown_body (b ∷ body) = codes " " ++ (b ∷ body)

-- the line of a reply: its status and its body
abbrev pub reply_line : Bytes → Bytes
reply_line reply = status_of reply ++ (shown_body (body_of reply) ++ codes "\n")

-- the line of a refusal: its number and its name
abbrev pub refusal_line : Refusal → Bytes
refusal_line refusal = codes "refused " ++ (decimal (refusal_code refusal) ++ (codes " " ++ (title_of refusal ++ codes "\n")))

-- the line of a fault of the keep
abbrev pub fault_line : KeepFault → Bytes
fault_line fault = codes "fault " ++ (fault_word fault ++ codes "\n")

-- the lines of a reply to the plant; a text is lines already
abbrev pub plant_reply_text : PlantReply → Bytes
plant_reply_text plant.Accepted = codes "accepted\n"
plant_reply_text plant.Repeated = codes "repeated\n"
plant_reply_text (plant.Refused refusal) = refusal_line refusal
plant_reply_text (plant.Text lines) = lines.items
plant_reply_text (plant.Fault fault) = fault_line fault

-- the lines of an answer
abbrev pub answer_lines : Answer → Bytes
answer_lines (answer.Bytes out) = reply_line (out_bytes out)
answer_lines (answer.Plant reply) = plant_reply_text reply

-- the lines of the answers, in order
abbrev pub printed : List Answer → Bytes
printed answers = flat_map answer_lines answers
