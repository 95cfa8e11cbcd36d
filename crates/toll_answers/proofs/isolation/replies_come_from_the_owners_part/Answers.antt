use Rattle.toll_answers.proofs.OwnReplies.{reply-both_ways, after_reply-part}
use Rattle.toll_answers.proofs.isolation.replies_come_from_the_owners_part.Goals as goal

pub returns-clause-reply : goal.returns-clause-reply
returns-clause-reply c = λ H o key q r lawful not_house. reply-both_ways o not_house H lawful key q r

pub returns-clause-growth : goal.returns-clause-growth
returns-clause-growth c = λ H o key q lawful not_house. after_reply-part o not_house H lawful key q
