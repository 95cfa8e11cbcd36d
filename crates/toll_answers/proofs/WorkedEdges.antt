-- The edges of the worked examples, computed.
use Rattle.std.proofs.Common.{◌≡◌, List, [], ◌∷◌, refl, sym, subst, Contains, codes}
use Rattle.toll_answers.proofs.Common.{house_name, part, acts, stock, sublot_known, lot_made, count_lots, count_sublots, material_used, checks, verdicts, accepted_verdicts, acme, one_product, Edge, of_acme, of_house, circle, consumed_in_a_circle, house_material, made_of_house_material}
use Rattle.toll_history.specs.Holders.{holder}
use Rattle.toll_answers.proofs.DrawnHere.{drawn_here, edges_swapped}

abbrev pub from_a : Edge
from_a = record { from = of_acme (codes "A"); to = of_acme (codes "P1") }

abbrev pub house_edge : Edge
house_edge = record { from = of_house (codes "H-1"); to = of_acme (codes "P1") }

one_product_drawn : drawn_here (acts acme one_product) ≡ house_edge ∷ from_a ∷ []
unfolding part acts stock sublot_known lot_made count_lots count_sublots material_used holder checks
one_product_drawn = refl

pub to_listed : (e : Edge) → Contains (drawn_here (acts acme one_product)) e → Contains (from_a ∷ house_edge ∷ []) e
to_listed e i = edges_swapped house_edge from_a e (subst (λ es. Contains es e) one_product_drawn i)

pub from_listed : (e : Edge) → Contains (from_a ∷ house_edge ∷ []) e → Contains (drawn_here (acts acme one_product)) e
from_listed e i = subst (λ es. Contains es e) (sym one_product_drawn) (edges_swapped from_a house_edge e i)

abbrev pub of_circle : List Edge
of_circle = record { from = of_acme (codes "Q1"); to = of_acme (codes "P1") } ∷ record { from = of_acme (codes "P1"); to = of_acme (codes "Q1") } ∷ []

pub circle_drawn : drawn_here (acts acme circle) ≡ of_circle
unfolding part acts stock sublot_known lot_made count_lots count_sublots material_used holder checks
circle_drawn = refl

abbrev pub into_product : List Edge
into_product = record { from = of_house (codes "H-2"); to = of_acme (codes "P1") } ∷ []

pub product_drawn : drawn_here (acts acme house_material) ≡ into_product
unfolding part acts stock sublot_known lot_made count_lots count_sublots material_used holder checks
product_drawn = refl

abbrev pub in_house : List Edge
in_house = record { from = of_house (codes "H-1"); to = of_house (codes "H-2") } ∷ []

pub house_drawn : drawn_here (acts house_name house_material) ≡ in_house
unfolding part acts stock sublot_known lot_made count_lots count_sublots material_used holder checks
house_drawn = refl

pub circle_accepted : verdicts [] consumed_in_a_circle ≡ accepted_verdicts consumed_in_a_circle
unfolding part acts stock sublot_known lot_made count_lots count_sublots material_used holder checks
circle_accepted = refl

pub house_material_accepted : verdicts [] made_of_house_material ≡ accepted_verdicts made_of_house_material
unfolding part acts stock sublot_known lot_made count_lots count_sublots material_used holder checks
house_material_accepted = refl
