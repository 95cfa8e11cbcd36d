use Rattle.std.proofs.Common.{◌≡◌, Bool, true, false, cond, Some, List, [], ◌∷◌, refl, sym, ap, ◌∙◌}
use Rattle.toll_base.proofs.Common.{Bytes, same_bytes}
use Rattle.std.specs.List.{find}
use Rattle.toll_base.specs.States.{word_of_command, commands, read_command}
use Rattle.toll_base.specs.declared.state_command.StateCommand.{StateCommand}
use Rattle.toll_base.specs.declared.state_command.StateCommand.TheVariants.{Done, Start, Stop, Hold, Restart, Abort, Reset, Pause, Resume}
use Rattle.toll_base.proofs.Texts.{same_bytes-exact}
use Rattle.toll_base.proofs.state_command.StateCommand.read.Goals as goal

read_back : (command : StateCommand) → read_command (word_of_command command) ≡ Some command
read_back Done = refl
read_back Start = refl
read_back Stop = refl
read_back Hold = refl
read_back Restart = refl
read_back Abort = refl
read_back Reset = refl
read_back Pause = refl
read_back Resume = refl

-- what is found passes the test
find-passes : {X : Type 0} (p : X → Bool) (xs : List X) (x : X) → find p xs ≡ Some x → p x ≡ true
find-passes p [] x found = (cc)
find-passes p (y ∷ ys) x found =
    elim (p y) as (λ b. p y ≡ b → cond b (Some y) (find p ys) ≡ Some x → p x ≡ true) [
      | true ↦ λ hit is. let same : y ≡ x = (cc) in ap p (sym same) ∙ hit
      | false ↦ λ miss is. find-passes p ys x is
    ] refl found

read_has_word : (bytes : Bytes) (command : StateCommand) → read_command bytes ≡ Some command → bytes ≡ word_of_command command
read_has_word bytes command is = same_bytes-exact bytes (word_of_command command) (find-passes (λ c. same_bytes bytes (word_of_command c)) commands command is)

pub returns-clause-exact : goal.returns-clause-exact
returns-clause-exact c command = (λ is. read_has_word c.args.bytes.now command (sym c.with_word.ensures ∙ is), λ is. c.with_word.ensures ∙ ap read_command is ∙ read_back command)
