use Rattle.std.proofs.Common.{◌≡◌, ℕ, ◌+◌, ◌-◌, take, ◌<◌, ◌≤◌, Bool, true, false, cond, ◌||◌, nat_eq, nat_lt, List, []}
use Rattle.std.proofs.Common.{◌∷◌, ◌++◌, length, drop, Option, Some, None, Result, Ok, Err, refl, sym, ◌∙◌, ap, inl}
use Rattle.std.proofs.Common.{inr, arith, append-nil, append_assoc, length-drop}
use Rattle.std.proofs.Math.Seq.{take-length}
use Rattle.std.specs.List.{filter, find}
use Rattle.std.specs.Option.{option_map_or}
use Rattle.std.specs.Str.{bytes_eq}
use Rattle.std.specs.Prelude.{codes}
use Rattle.std.proofs.lemmas.Bool.{cases_Bool, lt-ltb, le-ltb}
use Rattle.std.proofs.lemmas.Cmp.{nat_eq_equiv}
use Rattle.std.proofs.lemmas.List.Elements.{filter-append, filter_map-append}
use Rattle.suit_cards.specs.Ranks.{IsRank, rank_named}
use Rattle.suit_cards.specs.Holdings.{holds, suit, with_rank}
use Rattle.suit_cards.specs.Masks.{suit_is}
use Rattle.suit_cards.specs.Reading.{Spot, spots_from, ranks_read, before, is_at_fault, fault_at, holding_read}
use Rattle.suit_cards.specs.Reading.{BeginsNoRank, BeginsRank}
use Rattle.suit_cards.specs.declared.holdings.CardFault.{CardFault}
use Rattle.suit_cards.specs.declared.holdings.CardFault.TheVariants.{NotRank, Twice}
use Rattle.suit_cards.proofs.SuitRuns.{filter_suit-agree, holds-filter_suit}
use Rattle.suit_cards.proofs.HoldingIsWhatItHolds.{filter-nothing}
use Rattle.suit_cards.proofs.RankLetters.{IsRank-named}

-- what reading gives from spots on, where these ranks are held already
unfoldable pub read_on : List ℕ → List Spot → Result (List ℕ) CardFault
read_on held [] = Ok held
read_on held (spot ∷ rest) =
    option_map_or (λ rank. cond (holds held rank) (Err (Twice spot.index)) (read_on (with_rank held rank) rest))
    spot.rank (Err (NotRank spot.index))

-- the spots stand at rising places from one on, and each rank is one of a card
abbrev pub Rise : ℕ → List Spot → Type 0
Rise index [] = Unit {0}
Rise index (spot ∷ rest) =
    (index ≤ spot.index) × ((rank : ℕ) → spot.rank ≡ Some rank → IsRank rank) × Rise (spot.index + 1) rest

-- the spots stand before an index
abbrev pub Precede : ℕ → List Spot → Type 0
Precede index [] = Unit {0}
Precede index (spot ∷ rest) = (spot.index < index) × Precede index rest

-- spots that rise from one index on rise from a lower one on
Rise-later : (low high : ℕ) (spots : List Spot) → low ≤ high → Rise high spots → Rise low spots
Rise-later low high [] le rise = tt
Rise-later low high (spot ∷ rest) le rise = (omega (arith, rise.0), rise.1, rise.2)

-- spots before one index stand before a higher one
Precede-later : (low high : ℕ) (spots : List Spot) → low ≤ high → Precede low spots → Precede high spots
Precede-later low high [] le h = tt
Precede-later low high (spot ∷ rest) le h = (omega (arith, h.0), Precede-later low high rest le h.1)

-- with one more spot before an index, all stand before it
Precede-push : (index : ℕ) (spots : List Spot) (spot : Spot) → Precede index spots → spot.index < index
    → Precede index (spots ++ spot ∷ [])
Precede-push index [] spot h last = (last, tt)
Precede-push index (first ∷ rest) spot h last = (h.0, Precede-push index rest spot h.1 last)

-- of spots before an index, all are before it
before-all : (index : ℕ) (spots : List Spot) → Precede index spots → before index spots ≡ spots
before-all index [] h = refl
before-all index (spot ∷ rest) h = rw (lt-ltb spot.index index h.0, before-all index rest h.1) refl

-- of spots from an index on, none is before it
before-none : (index from : ℕ) (spots : List Spot) → index ≤ from → Rise from spots → before index spots ≡ []
before-none index from [] le rise = refl
before-none index from (spot ∷ rest) le rise =
    rw (
      le-ltb spot.index index (omega (arith, rise.0)),
      before-none index (spot.index + 1) rest
          (omega (arith, rise.0)) rise.2,
    ) refl

-- the spots before an index are those done where the others stand from it on
before-split : (index : ℕ) (done rest : List Spot) → Precede index done → Rise index rest
    → before index (done ++ rest) ≡ done
before-split index done rest precede rise =
    filter-append (λ (spot : Spot). nat_lt spot.index index) done rest
    ∙ rw (before-all index done precede, before-none index index rest (omega arith) rise) (append-nil done)

-- two lists together hold what either holds
holds-append : (here more : List ℕ) (rank : ℕ) → holds (here ++ more) rank ≡ (holds here rank || holds more rank)
holds-append [] more rank = refl
holds-append (first ∷ rest) more rank =
    rw (holds-append rest more rank)
    (elim (nat_eq rank first) as (λ b. (b || (holds rest rank || holds more rank))
    ≡ ((b || holds rest rank) || holds more rank))
    [ true ↦ refl | false ↦ refl ])

-- the holding of the ranks that begin at spots
abbrev held_by : List Spot → List ℕ
held_by spots = filter (holds (ranks_read spots)) suit

-- one spot more reads its rank more
ranks_read-push : (done : List Spot) (spot : Spot) (rank : ℕ) → spot.rank ≡ Some rank
    → ranks_read (done ++ spot ∷ []) ≡ ranks_read done ++ rank ∷ []
ranks_read-push done spot rank is =
    filter_map-append (λ (s : Spot). s.rank) done (spot ∷ []) ∙ rw is refl

-- two tests may change places
or_other_way : (x y : Bool) → (x || y) ≡ (y || (x || false))
or_other_way true true = refl
or_other_way true false = refl
or_other_way false true = refl
or_other_way false false = refl

-- one spot more adds its rank to the holding
held_by-push : (done : List Spot) (spot : Spot) (rank : ℕ) → spot.rank ≡ Some rank
    → with_rank (held_by done) rank ≡ held_by (done ++ spot ∷ [])
held_by-push done spot rank is =
    filter_suit-agree _ _ (λ other low high.
    rw (
      holds-filter_suit (holds (ranks_read done)) other low high,
      ranks_read-push done spot rank is,
      holds-append (ranks_read done) (rank ∷ []) other,
      nat_eq_equiv.symm rank other,
    )
    (or_other_way (nat_eq other rank) (holds (ranks_read done) other)))

-- what is told of the spots to come, where those done are not at fault
unfoldable told : List Spot → List Spot → Result (List ℕ) CardFault
told done rest =
    option_map_or (λ spot. Err (fault_at spot)) (find (is_at_fault (done ++ rest)) rest) (Ok (held_by (done ++ rest)))

-- where no rank begins at the next spot, that is told
told-no_rank : (done rest : List Spot) (spot : Spot) → spot.rank ≡ None
    → told done (spot ∷ rest) ≡ Err (NotRank spot.index)
unfolding told
told-no_rank done rest spot is = rw is refl

-- a spot after those done is at fault where its rank is held
at_fault : (done rest : List Spot) (spot : Spot) (index rank : ℕ) → Precede index done → Rise index (spot ∷ rest)
    → spot.rank ≡ Some rank → is_at_fault (done ++ spot ∷ rest) spot ≡ holds (held_by done) rank
at_fault done rest spot index rank precede rise is =
    let own = rise.1 rank is in
    let seen = before spot.index (done ++ spot ∷ rest) in
    ap (λ (begun : Option ℕ). option_map_or (holds (ranks_read seen)) begun true) is
    ∙ ap (λ (spots : List Spot). holds (ranks_read spots) rank)
    (before-split spot.index done (spot ∷ rest) (Precede-later index spot.index done rise.0 precede)
    (omega arith, rise.1, rise.2))
    ∙ sym (holds-filter_suit (holds (ranks_read done)) rank own.0 (omega (arith, own.1)))

-- where the next spot is at fault and a rank begins, it is told as read twice
told-twice : (done rest : List Spot) (spot : Spot) (rank : ℕ) → spot.rank ≡ Some rank
    → is_at_fault (done ++ spot ∷ rest) spot ≡ true → told done (spot ∷ rest) ≡ Err (Twice spot.index)
unfolding told
told-twice done rest spot rank is fault = rw fault (rw is refl)

-- a spot that is not at fault is done
told-more : (done rest : List Spot) (spot : Spot) → is_at_fault (done ++ spot ∷ rest) spot ≡ false
    → told done (spot ∷ rest) ≡ told (done ++ spot ∷ []) rest
unfolding told
told-more done rest spot sound = rw (sound, append_assoc) refl

-- reading on where no rank begins at the next spot
read_on-no_rank : (held : List ℕ) (spot : Spot) (rest : List Spot) → spot.rank ≡ None
    → read_on held (spot ∷ rest) ≡ Err (NotRank spot.index)
unfolding read_on
read_on-no_rank held spot rest is = rw is refl

-- reading on where the rank at the next spot is held
read_on-twice : (held : List ℕ) (spot : Spot) (rest : List Spot) (rank : ℕ) → spot.rank ≡ Some rank
    → holds held rank ≡ true
    → read_on held (spot ∷ rest) ≡ Err (Twice spot.index)
unfolding read_on
read_on-twice held spot rest rank is twice = rw (is, twice) refl

-- reading on where the rank at the next spot is not held
read_on-more : (held : List ℕ) (spot : Spot) (rest : List Spot) (rank : ℕ) → spot.rank ≡ Some rank
    → holds held rank ≡ false
    → read_on held (spot ∷ rest) ≡ read_on (with_rank held rank) rest
unfolding read_on
read_on-more held spot rest rank is new = rw (is, new) refl

-- reading on where no spot is left
read_on-over : (spots : List Spot) → read_on (held_by spots) [] ≡ told spots []
unfolding read_on told
read_on-over spots = rw (append-nil spots) refl

-- one step of `read_on-told`, from the rank at the next spot
read_on-spot : (done rest : List Spot) (spot : Spot) (index : ℕ) → Precede index done → Rise index (spot ∷ rest)
    → read_on (held_by (done ++ spot ∷ [])) rest ≡ told (done ++ spot ∷ []) rest
    → (begun : Option ℕ) → spot.rank ≡ begun → read_on (held_by done) (spot ∷ rest) ≡ told done (spot ∷ rest)
read_on-spot done rest spot index precede rise later None is =
    read_on-no_rank (held_by done) spot rest is ∙ sym (told-no_rank done rest spot is)
read_on-spot done rest spot index precede rise later (Some rank) is =
    let fault = at_fault done rest spot index rank precede rise is in
    elim (cases_Bool (holds (held_by done) rank)) [
      | inl twice ↦
          read_on-twice (held_by done) spot rest rank is twice ∙ sym (told-twice done rest spot rank is (fault ∙ twice))
      | inr new ↦
          read_on-more (held_by done) spot rest rank is new
          ∙ rw (held_by-push done spot rank is) later
          ∙ sym (told-more done rest spot (fault ∙ new))
    ]

-- reading on from the ranks held by what is done tells the first fault of all
read_on-told : (rest done : List Spot) (index : ℕ) → Precede index done → Rise index rest
    → read_on (held_by done) rest ≡ told done rest
read_on-told [] done index precede rise = read_on-over done
read_on-told (spot ∷ rest) done index precede rise =
    read_on-spot done rest spot index precede rise
    (read_on-told rest (done ++ spot ∷ []) (spot.index + 1)
    (Precede-push (spot.index + 1) done spot (Precede-later index (spot.index + 1) done (omega (arith, rise.0)) precede)
    (omega arith))
    rise.2)
    spot.rank refl

-- ten is a rank
ten_is_rank : (rank : ℕ) → Some 10 ≡ Some rank → IsRank rank
ten_is_rank rank is = let same : 10 ≡ rank = cc in (omega arith, omega arith)

-- the spots of a text rise from its index on
Rise-spots_from : (index : ℕ) (text : List ℕ) → Rise index (spots_from index text)
unfolding spots_from
Rise-spots_from index [] = tt
Rise-spots_from index (byte ∷ []) = (omega arith, IsRank-named byte, tt)
Rise-spots_from index (byte ∷ next ∷ rest) =
    elim (bytes_eq (byte ∷ next ∷ []) (codes "10")) as (λ b. Rise index (cond b
    (record { index = index; rank = Some 10 } ∷ spots_from (index + 2) rest)
    (record { index = index; rank = rank_named byte } ∷ spots_from (index + 1) (next ∷ rest)))) [
      | true ↦ (
        omega arith,
        ten_is_rank,
        Rise-later (index + 1) (index + 2) _ (omega arith)
            (Rise-spots_from (index + 2) rest),
      )
      | false ↦ (omega arith, IsRank-named byte, Rise-spots_from (index + 1) (next ∷ rest))
    ]

-- no spot reads no rank
held_by-none : held_by [] ≡ []
held_by-none = rw suit_is (filter-nothing 13)

-- reading goes on from the whole text with no card held
pub read_whole : (text : List ℕ) → bytes_eq text (codes "-") ≡ false
    → read_on [] (spots_from 0 text) ≡ holding_read text
unfolding holding_read told
read_whole text not_dash =
    rw not_dash (rw held_by-none at (read_on-told (spots_from 0 text) [] 0 tt (Rise-spots_from 0 text)))

-- reading on where no rank begins
pub read_on-none_begins : (held text : List ℕ) (index : ℕ) → BeginsNoRank text
    → read_on held (spots_from index text) ≡ Err (NotRank index)
read_on-none_begins held text index begins =
    rw (begins index).1 (read_on-no_rank held (record { index = index; rank = None }) (begins index).0 refl)

-- reading on where a rank begins that is held
pub read_on-held_begins : (held text : List ℕ) (index rank width : ℕ) → BeginsRank text rank width
    → holds held rank ≡ true
    → read_on held (spots_from index text) ≡ Err (Twice index)
read_on-held_begins held text index rank width begins twice =
    rw (begins.cut index) (read_on-twice held (record { index = index; rank = Some rank }) _ rank refl twice)

-- reading on where a rank begins that is not held
pub read_on-new_begins : (held text : List ℕ) (index rank width : ℕ) → BeginsRank text rank width
    → holds held rank ≡ false
    → read_on held (spots_from index text)
    ≡ read_on (with_rank held rank) (spots_from (index + width) (drop width text))
read_on-new_begins held text index rank width begins new =
    rw (begins.cut index) (read_on-more held (record { index = index; rank = Some rank }) _ rank refl new)

-- reading on at the end
pub read_on-end : (held text : List ℕ) (index : ℕ) → text ≡ [] → read_on held (spots_from index text) ≡ Ok held
unfolding read_on spots_from
read_on-end held text index over = rw over refl

-- a dash alone is read as no card
pub read_dash : (text : List ℕ) → bytes_eq text (codes "-") ≡ true → holding_read text ≡ Ok []
unfolding holding_read
read_dash text dash = rw dash refl

-- what is left of a text from an index on
pub rest_is : (text : List ℕ) (index : ℕ) → take (length text - index) (drop index text) ≡ drop index text
rest_is text index = rw (← length-drop index text) (take-length (drop index text))
