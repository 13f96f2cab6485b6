-- chunk_more, all_chunks: the best reply to a plan, chunk by chunk of the class layouts.
use Rattle.std.proofs.Common.{◌≡◌, ℕ, ◌+◌, ◌-◌, ◌*◌, ◌/◌, ◌%◌, ◌<◌, List, ◌∷◌, ◌++◌, length, get_or, min}
use Rattle.std.proofs.Common.{Ok, ap, ◌∙◌, subst, arith, inl, inr}
use Rattle.std.specs.Prelude.{FitsSigned, IfOk, Result, ℤ, ◌+ℤ◌}
use Rattle.std.specs.Int.{w128}
use Rattle.std.proofs.lemmas.Bool.{cases_lt}
use Rattle.std.proofs.lemmas.Nat.{div-add-mod', mod_below}
use Rattle.suit_lists.proofs.Basics.{next_inside}
use Rattle.suit_lists.proofs.Indices.{next_at}
use native.Mathlib.Nat.{add-mul, one-mul}
use Rattle.suit_game.specs.declared.question.Question.{Question}
use Rattle.suit_game.specs.Validity.{IsValid}
use Rattle.suit_plans.specs.declared.moves.DefenceMove.{DefenceMove}
use Rattle.suit_plans.specs.declared.plan.Plan.{Plan}
use Rattle.suit_plans.specs.Properness.{IsProperPlan}
use Rattle.suit_reply.specs.LayoutsReplies.{IsReplyIn}
use Rattle.suit_reply.proofs.OwnMovesGoOn.{layouts_of}
use Rattle.suit_reply.proofs.LeastLayoutByLayout.{both_replies, replies_fit}

-- what is told of each reply of a list, by its index, is told of the next one
pub next_told : {R E : Type 0} (Told : ℕ → R → Type 0) (replies done later : List (Result R E)) (reply : R)
    → replies ≡ done ++ Ok reply ∷ later
    → ((n : ℕ) (d : Result R E) → n < length replies → IfOk (get_or replies n d) (Told n))
    → Told (length done) reply
next_told {R} {E} Told replies done later reply parts each =
    subst (λ (found : Result R E). IfOk found (Told (length done))) (next_at done (Ok reply) later (Ok reply))
    (subst (λ (all : List (Result R E)). IfOk (get_or all (length done) (Ok reply)) (Told (length done))) parts
    (each (length done) (Ok reply) (next_inside replies done (Ok reply) later parts)))

module _ (question : Question) (plan : Plan) (many size done chunk : ℕ) (some : 0 < chunk)
    (is_chunk : chunk ≡ min size (many - done * size)) where
  one_more : (done + 1) * size ≡ done * size + size
  one_more = add-mul done 1 size ∙ ap (λ (n : ℕ). done * size + n) (one-mul size)

  whole : min (done * size) many ≡ done * size
  whole = omega (arith, some, is_chunk)

  longer : done * size + chunk ≡ min ((done + 1) * size) many
  longer = omega (arith, some, is_chunk, one_more)

  -- one chunk more
  pub chunk_more : (number later : ℤ) (moves others : List DefenceMove)
      → IsReplyIn question plan 0 (min (done * size) many) number moves
      → IsReplyIn question plan (done * size) chunk later others
      → IsReplyIn question plan 0 (min ((done + 1) * size) many) (number +ℤ later) (moves ++ others)
  chunk_more number later moves others so_far next =
      subst (λ (n : ℕ). IsReplyIn question plan 0 n (number +ℤ later) (moves ++ others)) longer
      (both_replies question plan 0 (done * size) chunk number later moves others
      (subst (λ (n : ℕ). IsReplyIn question plan 0 n number moves) whole so_far)
      (subst (λ (n : ℕ). IsReplyIn question plan n chunk later others) from next))
    where
      from : done * size ≡ 0 + done * size
      from = omega arith

  -- the sum fits
  pub chunk_fits : (number later : ℤ) (moves others : List DefenceMove) → IsValid question → IsProperPlan question plan
      → many ≡ length (layouts_of question)
      → IsReplyIn question plan 0 (min (done * size) many) number moves
      → IsReplyIn question plan (done * size) chunk later others → FitsSigned w128 (number +ℤ later)
  chunk_fits number later moves others valid proper all so_far next =
      replies_fit question plan valid proper 0 (min ((done + 1) * size) many) (number +ℤ later) (moves ++ others)
      (omega (arith, all)) (chunk_more number later moves others so_far next)

-- the chunks cover the class layouts
pub all_chunks : (many size chunks : ℕ) → 0 < size → chunks ≡ many / size + min 1 (many % size)
    → min (chunks * size) many ≡ many
all_chunks many size chunks some is =
    let full : ℕ = many / size in
    let divided : full * size + many % size ≡ many = div-add-mod' many size in
    let below : many % size < size = mod_below many size some in
    elim (cases_lt 0 (many % size)) [
      | inl more ↦
          let one : chunks ≡ full + 1 = omega (arith, is, more) in
          let both : chunks * size ≡ full * size + 1 * size =
          ap (λ (n : ℕ). n * size) one ∙ add-mul full 1 size in
          omega (arith, divided, below, both, one-mul size)
      | inr none ↦
          let same : chunks ≡ full = omega (arith, is, none) in
          let both : chunks * size ≡ full * size = ap (λ (n : ℕ). n * size) same in
          omega (arith, divided, none, both)
    ]
