-- What holds of every sample model.
use Rattle.std.specs.Prelude.{ℕ, None}
use Rattle.ip_core.specs.declared.model.ModelParts.{ModelParts}
use Rattle.width_admit.specs.Admission.{Admits}
use Rattle.sample_model.specs.Samples.{generated_model}

-- each one is admitted as it stands, as some model in whole numbers
abbrev pub SamplesAreAdmitted : Type 0
SamplesAreAdmitted =
    (number : ℕ) → (parts : ModelParts) × Admits (generated_model number) None parts
