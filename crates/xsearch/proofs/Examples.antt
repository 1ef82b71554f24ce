-- Texts in small examples.
use Rattle.std.proofs.Common.{◌≡◌, Bool, true, false, [], ◌∷◌, pos, negsuc, codes, Some, None, refl}
use Rattle.std.specs.Fmt.{digits}
use Rattle.ip_core.specs.declared.model.ModelParts.{ModelParts}
use Rattle.task_steps.specs.declared.answer.Status.TheVariants.{Optimal, Infeasible, StoreLimit, WorkLimit}
use Rattle.xsearch.specs.Answer.{answer_text, objective_line}
use Rattle.xsearch.specs.Refusals.{mps_refusal, model_refusal}

abbrev packing : Bool → ModelParts
packing maximise = record {
  name = codes "PACK";
  cols = codes "BOX" ∷ codes "CAN" ∷ codes "LID" ∷ [];
  costs = negsuc 224 ∷ negsuc 149 ∷ negsuc 39 ∷ [];
  constant = pos 0;
  decimals = 2;
  maximise = maximise;
  root = record { lows = pos 0 ∷ pos 0 ∷ pos 0 ∷ []; highs = pos 4 ∷ pos 4 ∷ pos 1 ∷ [] };
  rows = [];
}

-- a value of -525 with two decimals
packed : answer_text (packing false) Optimal (Some (record { value = negsuc 524; point = pos 1 ∷ pos 2 ∷ pos 0 ∷ [] })) ≡ codes "status optimal\nobjective -5.25\nBOX = 1\nCAN = 2\nLID = 0\n"
unfolding digits
packed = refl

-- the same where the file maximises
negated : objective_line (packing true) (negsuc 524) ≡ codes "objective 5.25\n"
unfolding digits
negated = refl

-- 0 has no sign
unsigned : objective_line (packing true) (pos 0) ≡ codes "objective 0.00\n"
unfolding digits
unsigned = refl

unfound : answer_text (packing false) WorkLimit None ≡ codes "status worklimit\nobjective none\n"
unfound = refl

infeasible : answer_text (packing false) Infeasible None ≡ codes "status infeasible\n"
infeasible = refl

unended : mps_refusal 9 14 ≡ codes "refused mps line 9 kind 14\n"
unfolding digits
unended = refl

unbounded : model_refusal 3 0 ≡ codes "refused model kind 3 index 0\n"
unfolding digits
unbounded = refl

-- a store that is full, with a point and without
stored : answer_text (packing false) StoreLimit (Some (record { value = negsuc 524; point = pos 1 ∷ pos 2 ∷ pos 0 ∷ [] })) ≡ codes "status storelimit\nobjective -5.25\nBOX = 1\nCAN = 2\nLID = 0\n"
unfolding digits
stored = refl

unstored : answer_text (packing false) StoreLimit None ≡ codes "status storelimit\nobjective none\n"
unstored = refl
