use Rattle.std.proofs.Common.{◌≡◌, ◌∙◌, ◌++◌, [], Bool, List, ap, sym, length, arith}
use Rattle.std.specs.Prelude.{map, if◌then◌else◌}
use Rattle.std.proofs.lemmas.List.{length-map, append-nil}
use Rattle.suit_cards.specs.declared.seats.Seat.TheVariants.{N, S}
use Rattle.suit_classes.specs.declared.class_moves.ClassMove.{ClassMove}
use Rattle.suit_classes.specs.declared.class_moves.ClassMove.TheVariants.{Lead}
use Rattle.suit_classes.specs.ClassPlaces.{class_leads, counted_classes, may_lead}
use Rattle.suit_classes.proofs.CountedClassByClass.{apart_fit, counted_classes-most}
use Rattle.suit_classes.proofs.class_place.ClassPlace.leads.Goals as goal
use Rattle.suit_classes.proofs.class_place.ClassPlace.leads.Goals.{then-may_lead, else-may_lead}

pub add_leads-requires : goal.add_leads-requires
add_leads-requires c = omega (arith, ap length c.new-leads.ensures, counted_classes-most c.self.inside.view.north)

pub add_leads-requires-then-may_lead-2 : goal.add_leads-requires-then-may_lead-2
add_leads-requires-then-may_lead-2 c =
    let fit = apart_fit c.self.inside.view.north c.self.inside.view.south c.self.invariant in
    elim c.if-may_lead.branch [
      | then-may_lead w ↦
          let items : c.if-may_lead.leads.items ≡ map (Lead N) (counted_classes c.self.inside.view.north) =
          ap (λ v. v.items) w.leads-is ∙ w.add_leads.ensures
          ∙ ap
          (λ (l : List ClassMove). l ++ map (Lead N) (counted_classes c.self.inside.view.north)) c.new-leads.ensures in
          omega (arith, ap length items, length-map (counted_classes c.self.inside.view.north) (Lead N), fit)
      | else-may_lead w ↦ omega (arith, ap length (ap (λ v. v.items) w.leads-is ∙ c.new-leads.ensures), fit)
    ]

pub returns-then-may_lead-2 : goal.returns-then-may_lead-2
returns-then-may_lead-2 c =
    let items : c.if-may_lead.leads.items ≡ (if may_lead c.self.inside.view.lead c.self.inside.view.entries_n N
    then map (Lead N) (counted_classes c.self.inside.view.north) else []) =
    elim c.if-may_lead.branch [
      | then-may_lead w ↦
          ap (λ v. v.items) w.leads-is ∙ w.add_leads.ensures
          ∙ ap
          (λ (l : List ClassMove). l ++ map (Lead N) (counted_classes c.self.inside.view.north)) c.new-leads.ensures
          ∙ ap (λ (b : Bool). if b then map (Lead N) (counted_classes c.self.inside.view.north) else [])
          (sym w.if-may_lead.true ∙ c.may_lead.ensures)
      | else-may_lead w ↦
          ap (λ v. v.items) w.leads-is ∙ c.new-leads.ensures
          ∙ ap (λ (b : Bool). if b then map (Lead N) (counted_classes c.self.inside.view.north) else [])
          (sym w.if-may_lead.false ∙ c.may_lead.ensures)
    ] in
    c.add_leads-then-may_lead-2.ensures
    ∙ ap (λ (l : List ClassMove). l ++ map (Lead S) (counted_classes c.self.inside.view.south)) items
    ∙ ap
    (λ (b : Bool). (if may_lead c.self.inside.view.lead c.self.inside.view.entries_n N
    then map (Lead N) (counted_classes c.self.inside.view.north) else [])
    ++ (if b then map (Lead S) (counted_classes c.self.inside.view.south) else [])) (sym c.if-may_lead-2.true
    ∙ c.may_lead-2.ensures)
    ∙ ap class_leads c.self.view_is

pub returns-else-may_lead-2 : goal.returns-else-may_lead-2
returns-else-may_lead-2 c =
    let items : c.if-may_lead.leads.items ≡ (if may_lead c.self.inside.view.lead c.self.inside.view.entries_n N
    then map (Lead N) (counted_classes c.self.inside.view.north) else []) =
    elim c.if-may_lead.branch [
      | then-may_lead w ↦
          ap (λ v. v.items) w.leads-is ∙ w.add_leads.ensures
          ∙ ap
          (λ (l : List ClassMove). l ++ map (Lead N) (counted_classes c.self.inside.view.north)) c.new-leads.ensures
          ∙ ap (λ (b : Bool). if b then map (Lead N) (counted_classes c.self.inside.view.north) else [])
          (sym w.if-may_lead.true ∙ c.may_lead.ensures)
      | else-may_lead w ↦
          ap (λ v. v.items) w.leads-is ∙ c.new-leads.ensures
          ∙ ap (λ (b : Bool). if b then map (Lead N) (counted_classes c.self.inside.view.north) else [])
          (sym w.if-may_lead.false ∙ c.may_lead.ensures)
    ] in
    items
    ∙ sym
    (append-nil (if may_lead c.self.inside.view.lead c.self.inside.view.entries_n N
    then map (Lead N) (counted_classes c.self.inside.view.north) else []))
    ∙ ap
    (λ (b : Bool). (if may_lead c.self.inside.view.lead c.self.inside.view.entries_n N
    then map (Lead N) (counted_classes c.self.inside.view.north) else [])
    ++ (if b then map (Lead S) (counted_classes c.self.inside.view.south) else [])) (sym c.if-may_lead-2.false
    ∙ c.may_lead-2.ensures)
    ∙ ap class_leads c.self.view_is
