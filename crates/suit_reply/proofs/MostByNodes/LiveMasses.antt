-- live_passed, live_total: class layouts with the masses there, those alone where the mass is above 0.
use Rattle.std.proofs.Common.{◌≡◌, ℕ, Bool, true, false, cond, [], ◌∷◌, length, map, refl, sym, ap, ◌∙◌, inl, inr}
use Rattle.std.proofs.Common.{arith}
use Rattle.std.specs.Prelude.{Contains, filter, nat_lt, ℤ, pos, ◌+ℤ◌, ◌≤ℤ◌, int_lt}
use Rattle.std.specs.List.{list_any}
use Rattle.std.proofs.lemmas.Int.{ints}
use Rattle.suit_lists.proofs.Elements.{Contains-cons_cases, Contains-first, Contains-later, Contains-nil}
use Rattle.suit_lists.proofs.Filters.{any_kept}
use Rattle.suit_lists.proofs.Maps.{map_same}
use Rattle.suit_lists.proofs.Tests.{any_of_map}
use Rattle.suit_cards.specs.Cards.{Indices}
use Rattle.suit_plans.specs.Properness.{sum_of}
use Rattle.suit_reply.specs.AgainstDefence.{LayoutMasses, is_live}

-- an index with the mass there
abbrev pub held_at : (ℕ → ℤ) → ℕ → ℕ × ℤ
held_at mass index = (index, mass index)

-- the indices with their masses where these are above 0
abbrev pub live_masses : (ℕ → ℤ) → Indices → LayoutMasses
live_masses mass indices = filter is_live (map (held_at mass) indices)

none_case : (mass : ℕ → ℤ) (index : ℕ) (later : LayoutMasses) (alive : Bool) → is_live (held_at mass index) ≡ alive
    → cond alive (held_at mass index ∷ later) later ≡ []
    → (int_lt (pos 0) (mass index) ≡ false) × (later ≡ [])
none_case mass index later true is none = absurd (cc)
none_case mass index later false is none = (is, none)

-- where there are none no mass is above 0
pub none_live : (mass : ℕ → ℤ) (indices : Indices) → live_masses mass indices ≡ [] → (index : ℕ)
    → Contains indices index → int_lt (pos 0) (mass index) ≡ false
none_live mass [] none index found = absurd (Contains-nil index found)
none_live mass (first ∷ indices) none index found =
    let parts = none_case mass first (live_masses mass indices) (is_live (held_at mass first)) refl none in
    elim (Contains-cons_cases first indices index found) [
      | inl here ↦ ap (λ (p : ℕ). int_lt (pos 0) (mass p)) (sym here) ∙ parts.0
      | inr there ↦ none_live mass indices parts.1 index there
    ]

-- a mass is above 0 where there is one
pub any_live : (mass : ℕ → ℤ) (indices : Indices)
    → list_any (λ index. int_lt (pos 0) (mass index)) indices ≡ nat_lt 0 (length (live_masses mass indices))
any_live mass indices = sym (any_of_map is_live (held_at mass) indices) ∙ any_kept is_live (map (held_at mass) indices)

-- masses that are the same are so alone where they are above 0
pub same_live : (mass other : ℕ → ℤ) (indices : Indices) → ((index : ℕ) → mass index ≡ other index)
    → live_masses mass indices ≡ live_masses other indices
same_live mass other indices same =
    ap (filter is_live) (map_same (held_at mass) (held_at other) indices
    (λ index found. ap (λ (m : ℤ). (index, m)) (same index)))

passed_case : (before after : ℕ → ℤ) (passed : ℕ × ℤ → ℕ × ℤ) (holds : ℕ × ℤ → Bool) (index : ℕ) (rest : LayoutMasses)
    (others : Indices) (alive goes : Bool)
    → is_live (held_at before index) ≡ alive → holds (held_at before index) ≡ goes
    → (goes ≡ true → passed (held_at before index) ≡ held_at after index)
    → (goes ≡ true → int_lt (pos 0) (before index) ≡ false → int_lt (pos 0) (after index) ≡ false)
    → filter is_live (map passed (filter holds rest)) ≡ live_masses after others
    → filter is_live (map passed (filter holds (cond alive (held_at before index ∷ rest) rest)))
    ≡ live_masses after (cond goes (index ∷ others) others)
passed_case before after passed holds index rest others true true lives held same dies later =
    let here : ℕ × ℤ = held_at before index in
    let there : ℕ × ℤ = held_at after index in
    let on : LayoutMasses = filter holds rest in
    ap (λ (b : Bool). filter is_live (map passed (cond b (here ∷ on) on))) held
    ∙ ap (λ (x : ℕ × ℤ). cond (is_live x) (x ∷ filter is_live (map passed on)) (filter is_live (map passed on)))
    (same refl)
    ∙ ap (λ (l : LayoutMasses). cond (is_live there) (there ∷ l) l) later
passed_case before after passed holds index rest others true false lives held same dies later =
    let on : LayoutMasses = filter holds rest in
    ap (λ (b : Bool). filter is_live (map passed (cond b (held_at before index ∷ on) on))) held ∙ later
passed_case before after passed holds index rest others false true lives held same dies later =
    let there : ℕ × ℤ = held_at after index in
    later ∙ sym (ap (λ (b : Bool). cond b (there ∷ live_masses after others) (live_masses after others))
    (dies refl lives))
passed_case before after passed holds index rest others false false lives held same dies later = later

-- masses that pass on, at those indices that may, where no mass rises from 0
pub live_passed : (before after : ℕ → ℤ) (passed : ℕ × ℤ → ℕ × ℤ) (holds : ℕ × ℤ → Bool) (may : ℕ → Bool)
    (indices : Indices)
    → ((index : ℕ) → Contains indices index → holds (held_at before index) ≡ may index)
    → ((index : ℕ) → Contains indices index → may index ≡ true → passed (held_at before index) ≡ held_at after index)
    → ((index : ℕ) → Contains indices index → may index ≡ true → int_lt (pos 0) (before index) ≡ false
    → int_lt (pos 0) (after index) ≡ false)
    → filter is_live (map passed (filter holds (live_masses before indices))) ≡ live_masses after (filter may indices)
live_passed before after passed holds may [] held same dies = refl
live_passed before after passed holds may (index ∷ indices) held same dies =
    let here = Contains-first index indices in
    passed_case before after passed holds index (live_masses before indices) (filter may indices)
    (is_live (held_at before index)) (may index) refl (held index here) (same index here) (dies index here)
    (live_passed before after passed holds may indices
    (λ other found. held other (Contains-later index indices other found))
    (λ other found. same other (Contains-later index indices other found))
    (λ other found. dies other (Contains-later index indices other found)))

-- a mass that is neither negative nor above 0 is 0
pub not_above : (mass : ℤ) → pos 0 ≤ℤ mass → int_lt (pos 0) mass ≡ false → mass ≡ pos 0
not_above mass positive fails = grind (arith, ints)

total_case : (worth : ℤ → ℤ) (mass : ℕ → ℤ) (index : ℕ) (later : LayoutMasses) (alive : Bool)
    → is_live (held_at mass index) ≡ alive → worth (pos 0) ≡ pos 0 → pos 0 ≤ℤ mass index
    → sum_of (map (λ held. worth held.1) (cond alive (held_at mass index ∷ later) later))
    ≡ worth (mass index) +ℤ sum_of (map (λ held. worth held.1) later)
unfolding sum_of
total_case worth mass index later true is none positive = refl
total_case worth mass index later false is none positive =
    let zero : worth (mass index) ≡ pos 0 = ap worth (not_above (mass index) positive is) ∙ none in
    omega (arith, ints, zero)

-- what is 0 at a mass of 0 adds up alike over all indices, where no mass is negative
pub live_total : (worth : ℤ → ℤ) (mass : ℕ → ℤ) (indices : Indices) → worth (pos 0) ≡ pos 0
    → ((index : ℕ) → Contains indices index → pos 0 ≤ℤ mass index)
    → sum_of (map (λ held. worth held.1) (live_masses mass indices))
    ≡ sum_of (map (λ index. worth (mass index)) indices)
unfolding sum_of
live_total worth mass [] none positive = refl
live_total worth mass (index ∷ indices) none positive =
    total_case worth mass index (live_masses mass indices) (is_live (held_at mass index)) refl none
    (positive index (Contains-first index indices))
    ∙ ap (λ (z : ℤ). worth (mass index) +ℤ z)
    (live_total worth mass indices none (λ other found. positive other (Contains-later index indices other found)))
