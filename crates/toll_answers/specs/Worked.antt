-- Histories that worked examples of genealogy begin with.
use Rattle.std.specs.Prelude.{List, [], ◌∷◌, codes}
use Rattle.toll_answers.specs.Common.{Bytes, house_name, AddOwner, AddUnit, AddRecipe, PlaceOrder, OpenBatch, CommandBatch, Release, Command, by, moves, History, Edge, LotId, history_after, acme, material, require, receives, lot_id}
use Rattle.toll_base.specs.Rows.{placing_of}
use Rattle.toll_base.specs.declared.role.Role.TheVariants.{Consumed, Produced}
use Rattle.toll_base.specs.declared.movement.Move.TheVariants.{Actual}
use Rattle.toll_base.specs.declared.state_command.StateCommand.TheVariants.{Start}

-- a lot of ACME, and one of HOUSE
abbrev pub of_acme : Bytes → LotId
of_acme l = lot_id acme l

abbrev pub of_house : Bytes → LotId
of_house l = lot_id house_name l

-- the lots that the examples speak of
abbrev pub a : LotId
a = of_acme (codes "A")

abbrev pub p1 : LotId
p1 = of_acme (codes "P1")

abbrev pub q1 : LotId
q1 = of_acme (codes "Q1")

abbrev pub h1 : LotId
h1 = of_house (codes "H-1")

abbrev pub h2 : LotId
h2 = of_house (codes "H-2")

-- the first lot went into the second
abbrev pub into : LotId → LotId → Edge
into from to = record { from = from; to = to }

-- batch X/1 of ACME produces P1, of which batch Y/1 makes Q1, which X/1 consumes
abbrev pub consumed_in_a_circle : List Command
consumed_in_a_circle =
    by acme (AddOwner (codes "ACMEKEY1"))
    ∷ by house_name (AddUnit (codes "U1"))
    ∷ by house_name (AddUnit (codes "U2"))
    ∷ material acme (codes "P")
    ∷ material acme (codes "Q")
    ∷ by acme (AddRecipe (record { recipe = codes "R1"; segments = 1 }))
    ∷ by acme (AddRecipe (record { recipe = codes "R2"; segments = 1 }))
    ∷ require acme (codes "R1") 1 Consumed acme (codes "Q") 10
    ∷ require acme (codes "R1") 1 Produced acme (codes "P") 10
    ∷ require acme (codes "R2") 1 Consumed acme (codes "P") 10
    ∷ require acme (codes "R2") 1 Produced acme (codes "Q") 10
    ∷ by acme (PlaceOrder (placing_of (codes "X") (codes "R1") 1))
    ∷ by acme (PlaceOrder (placing_of (codes "Y") (codes "R2") 1))
    ∷ by acme (OpenBatch (codes "X") (codes "U1"))
    ∷ by acme (OpenBatch (codes "Y") (codes "U2"))
    ∷ by acme (CommandBatch (codes "X") 1 Start)
    ∷ by acme (CommandBatch (codes "Y") 1 Start)
    ∷ moves acme (codes "K1") (Actual (codes "X") 1 1 Produced (codes "P") (of_acme (codes "P1")) (codes "S")) 10 1
    ∷ by acme (Release (codes "P1"))
    ∷ moves acme (codes "K2") (Actual (codes "Y") 1 1 Consumed (codes "P") (of_acme (codes "P1")) (codes "S")) 10 2
    ∷ moves acme (codes "K3") (Actual (codes "Y") 1 1 Produced (codes "Q") (of_acme (codes "Q1")) (codes "S")) 10 2
    ∷ by acme (Release (codes "Q1"))
    ∷ moves acme (codes "K4") (Actual (codes "X") 1 1 Consumed (codes "Q") (of_acme (codes "Q1")) (codes "S")) 10 3
    ∷ []

abbrev pub circle : History
circle = history_after [] consumed_in_a_circle

-- HOUSE makes H-2 of H-1, and ACME makes P1 of H-2
abbrev pub made_of_house_material : List Command
made_of_house_material =
    by acme (AddOwner (codes "ACMEKEY1"))
    ∷ by house_name (AddUnit (codes "U1"))
    ∷ by house_name (AddUnit (codes "U2"))
    ∷ material house_name (codes "V")
    ∷ material house_name (codes "W")
    ∷ material acme (codes "P")
    ∷ by house_name (AddRecipe (record { recipe = codes "RH"; segments = 1 }))
    ∷ require house_name (codes "RH") 1 Consumed house_name (codes "V") 10
    ∷ require house_name (codes "RH") 1 Produced house_name (codes "W") 10
    ∷ by acme (AddRecipe (record { recipe = codes "R"; segments = 1 }))
    ∷ require acme (codes "R") 1 Consumed house_name (codes "W") 4
    ∷ require acme (codes "R") 1 Produced acme (codes "P") 5
    ∷ receives house_name (codes "K1") (codes "V") (codes "H-1") (codes "S") 10 1
    ∷ by house_name (Release (codes "H-1"))
    ∷ by house_name (PlaceOrder (placing_of (codes "HO") (codes "RH") 1))
    ∷ by house_name (OpenBatch (codes "HO") (codes "U1"))
    ∷ by house_name (CommandBatch (codes "HO") 1 Start)
    ∷ moves house_name (codes "K2") (Actual (codes "HO") 1 1 Consumed (codes "V") (of_house (codes "H-1")) (codes "S")) 10 2
    ∷ moves house_name (codes "K3") (Actual (codes "HO") 1 1 Produced (codes "W") (of_house (codes "H-2")) (codes "S")) 10 2
    ∷ by house_name (Release (codes "H-2"))
    ∷ by acme (PlaceOrder (placing_of (codes "O") (codes "R") 1))
    ∷ by acme (OpenBatch (codes "O") (codes "U2"))
    ∷ by acme (CommandBatch (codes "O") 1 Start)
    ∷ moves acme (codes "K1") (Actual (codes "O") 1 1 Consumed (codes "W") (of_house (codes "H-2")) (codes "S")) 4 3
    ∷ moves acme (codes "K2") (Actual (codes "O") 1 1 Produced (codes "P") (of_acme (codes "P1")) (codes "S")) 5 3
    ∷ []

abbrev pub house_material : History
house_material = history_after [] made_of_house_material
