-- The certificate file of a finished search is read and accepted.
use Rattle.std.proofs.Common.{◌≡◌, ◌∙◌, ℕ, Bool, true, false, not, if◌then◌else◌, IfSome, IsTrue, List, [], ◌++◌, unwrap_or, bytes_eq, Option, Some, None, Result, Ok, Err, refl, sym, ap, subst, arith}
use Rattle.std.proofs.lemmas.Bool.{true≢false}
use Rattle.std.proofs.lemmas.Slice.Eq.{bytes_eq-Decides}
use Rattle.mps_model.specs.declared.model.MpsModel.{MpsModel}
use Rattle.cert_text.specs.Certificates.{IsCertificate, certificate_text}
use Rattle.cert_text.specs.Readings.{Reads, reading}
use Rattle.cert_text.proofs.RoundTrips.{print_is_read}
use Rattle.log_text.specs.Logs.{log_text}
use Rattle.stamp_machine.specs.declared.history.History.{History}
use Rattle.task_steps.specs.declared.answer.Status.{Status}
use Rattle.task_steps.specs.declared.answer.Status.TheVariants as search
use Rattle.tree_build.specs.Certificates.{certificate_of, if_finished, proof_of}
use Rattle.tree_cert.specs.declared.certificate.Certificate.{Certificate}
use Rattle.xsearch_words.specs.Files.{Files, contents}
use Rattle.xsearch_words.specs.Forms.{names_differ}
use Rattle.xsearch_words.specs.Jobs.{job}
use Rattle.xsearch_words.specs.Outputs.{AreWritten, with_files, with_told_files}
use Rattle.xsearch_words.specs.Shelf.{ShelfState}
use Rattle.xsearch_words.specs.Sink.{SinkState}
use Rattle.xsearch_words.specs.declared.job.Job.{Job}
use Rattle.xsearch_words.specs.declared.job.Job.TheVariants.{Solve, Alone, Check, Show, Gen, Sample}
use Rattle.xsearch_words.specs.declared.job.SolveJob.{SolveJob}
use Rattle.xsearch_words.specs.declared.output.OutputFile.{OutputFile}
use Rattle.xsearch.specs.AcceptedFiles.{IsAcceptedFile, IsAcceptedIfAsked, IsAcceptedIfNamed, IsAcceptedIfSolved}
use Rattle.xsearch.specs.Answer.{status_word}
use Rattle.xsearch.specs.Causes.{IsFileAnswer, IsSolved, IsSolvedFile, NotAdmitted, Solved, Unsolved}
use Rattle.xsearch.specs.Endings.{Broken, EndsAs, FailsAs, IsPut, Unput, Whole, code_of, exit_of}
use Rattle.xsearch.specs.FileJobs.{IsFileJob, IsOfFile, NoContent, OfContent}
use Rattle.xsearch.specs.ModelFiles.{IsModelFailure, IsModelFile}
use Rattle.xsearch.specs.Runs.{Ends}
use Rattle.xsearch.specs.Searches.{limits_of, machine_history, settings_of}
use Rattle.xsearch.specs.Writes.{AllWritten, IsWritten, OneFailed, OneUnwritten, certificate_file, files_of, named_file}
use Rattle.xsearch.specs.declared.output.Output.{Output}
use Rattle.xsearch.specs.declared.output.Failure.{Failure}
use Rattle.xsearch.specs.declared.output.Failure.TheVariants.{Words, Length, Mps, Model, Cert, ReadFailed, WriteFailed, Memory}
use Rattle.xsearch.specs.declared.status.ExitStatus.{ExitStatus}
use Rattle.xsearch.specs.declared.status.ExitStatus.TheVariants.{Done, WorkLimit, StoreLimit, RefusedWords, RefusedInput, ShelfFailed, SinkFailed, NoMemory, Rejected}

-- ---- the files that are written

same_bytes : (name : List ℕ) → bytes_eq name name ≡ true
same_bytes name = (bytes_eq-Decides name name).1 refl

other_cases : (name other : List ℕ) (t : Bool) → bytes_eq other name ≡ t
    → IsTrue (not (bytes_eq name other)) → t ≡ false
other_cases name other true is apart =
    let same = (bytes_eq-Decides other name).0 is in
    let equal = (bytes_eq-Decides name other).1 (sym same) in
    absurd (true≢false (sym (subst (λ (t : Bool). IsTrue (not t)) equal apart)))
other_cases name other false is apart = refl

-- the file of a certificate, behind which that of a log of another name is written
kept_text : (log : Option (List ℕ)) (name text bytes : List ℕ) (files : Files)
    → IsTrue (names_differ (Some name) log)
    → contents (with_files (named_file (Some name) text ++ named_file log bytes) files) name ≡ text
kept_text None name text bytes files apart =
    ap (λ (t : Bool). unwrap_or (if t then Some text else files name) []) (same_bytes name)
kept_text (Some other) name text bytes files apart =
    ap (λ (t : Bool). unwrap_or (if t then Some bytes
    else (if bytes_eq name name then Some text else files name)) [])
    (other_cases name other (bytes_eq other name) refl apart)
    ∙ ap (λ (t : Bool). unwrap_or (if t then Some text else files name) []) (same_bytes name)

told_cases : (log : Option (List ℕ)) (name bytes : List ℕ) (c : Certificate)
    (told : Option Files) → IsTrue (names_differ (Some name) log) → IsCertificate c
    → IfSome (with_told_files (named_file (Some name) (certificate_text c) ++ named_file log bytes)
    told) (λ files. Reads (contents files name) c)
told_cases log name bytes c None apart kept = tt
told_cases log name bytes c (Some files) apart kept = record {
  is = ap reading (kept_text log name (certificate_text c) bytes files apart)
      ∙ print_is_read c kept;
}

-- ---- a finished search has a certificate

store_limit_is_not_done : StoreLimit ≡ Done → ⊥
store_limit_is_not_done same = cc

work_limit_is_not_done : WorkLimit ≡ Done → ⊥
work_limit_is_not_done same = cc

finished_made : (status : Status) (c : Certificate) → exit_of status ≡ Done
    → if_finished status c ≡ Some c
finished_made search.Optimal c done = refl
finished_made search.Infeasible c done = refl
finished_made search.StoreLimit c done = absurd (store_limit_is_not_done done)
finished_made search.WorkLimit c done = absurd (work_limit_is_not_done done)

-- ---- what solving comes to

-- the bytes of the log of a history
abbrev log_bytes : SolveJob → History → Status → List ℕ
log_bytes asked history status =
    log_text (limits_of asked.tune) (settings_of asked.tune) history (status_word status)

-- what is found
abbrev given : Output → Result Output Failure
given output = Ok output

same_output : (a b : Output) → given a ≡ given b → a ≡ b
same_output a b same = cc

no_output : (failure : Failure) (output : Output) → Err failure ≡ Ok output → ⊥
no_output failure output same = cc

module _ (asked : SolveJob) (name : List ℕ) (named : asked.cert ≡ Some name)
    (apart : IsTrue (names_differ asked.cert asked.log)) (old between new : ShelfState)
    (output : Output) (done : output.exit ≡ Done)
    (written : AreWritten output.files between new) where
  answer_accepted : (mps : MpsModel) (found : Result Output Failure)
      → IsModelFile old asked.model mps → found ≡ Ok output → IsFileAnswer asked mps found
      → IsAcceptedFile asked name old new
  answer_accepted mps found model is answer =
      let m = answer.m in
      let of_model = answer.of_model in
      let same : answer.output ≡ output = same_output answer.output output (sym answer.is ∙ is) in
      let c = certificate_of m (machine_history m asked.tune) answer.answer.best in
      let made : proof_of m (machine_history m asked.tune) answer.answer ≡ Some c =
      finished_made answer.answer.status c
      (sym of_model.exit ∙ ap (λ (o : Output). o.exit) same ∙ done) in
      let bytes = log_bytes asked (machine_history m asked.tune) answer.answer.status in
      let files : output.files
      ≡ named_file (Some name) (certificate_text c) ++ named_file asked.log bytes =
      sym (ap (λ (o : Output). o.files) same) ∙ of_model.files
      ∙ ap (λ (o : Option Certificate). certificate_file asked.cert o
      ++ named_file asked.log bytes) made
      ∙ ap (λ (o : Option (List ℕ)). named_file o (certificate_text c)
      ++ named_file asked.log bytes) named in
      record {
        mps = mps;
        m = m;
        model = model;
        admits = answer.admits;
        certificate = c;
        reads = subst (λ (told : Option Files). IfSome told (λ files. Reads (contents files name) c))
            (sym (written.files ∙ ap (λ (fs : List OutputFile). with_told_files fs between.files)
            files))
            (told_cases asked.log name bytes c between.files
            (subst (λ (o : Option (List ℕ)). IsTrue (names_differ o asked.log)) named apart)
            (of_model.searched.proof.text c made));
        accepted = (of_model.searched.proof.each c made).accepted;
      }

  solved_accepted : (mps : MpsModel) (found : Result Output Failure)
      → IsModelFile old asked.model mps → found ≡ Ok output → IsSolved asked mps found
      → IsAcceptedFile asked name old new
  solved_accepted mps found model is (Solved answer) = answer_accepted mps found model is answer
  solved_accepted mps found model is (NotAdmitted refused) =
      absurd (no_output _ output (sym refused.is ∙ is))
  solved_accepted mps found model is (Unsolved memory) =
      absurd (no_output Memory output (sym memory ∙ is))

  file_accepted : (found : Result Output Failure) → found ≡ Ok output
      → IsOfFile IsModelFile IsModelFailure (IsSolved asked) old between asked.model found
      → IsAcceptedFile asked name old new
  file_accepted found is (OfContent content) =
      solved_accepted content.content found content.file is content.comes
  file_accepted found is (NoContent none) =
      absurd (no_output none.failure output (sym none.is ∙ is))

written_accepted : (asked : SolveJob) (old between new : ShelfState)
    (found ended : Result Output Failure) (output : Output) (name : List ℕ)
    → IsTrue (names_differ asked.cert asked.log)
    → IsFileJob IsModelFile IsModelFailure (IsSolved asked) old between asked.model found
    → ended ≡ Ok output → output.exit ≡ Done → asked.cert ≡ Some name
    → IsWritten found between new ended → IsAcceptedFile asked name old new
written_accepted asked old between new found ended output name apart solved is done named
    (AllWritten same written) =
    let found_is : found ≡ Ok output = sym same ∙ is in
    file_accepted asked name named apart old between new output done
    (subst (λ (f : Result Output Failure). AreWritten (files_of f) between new) found_is written)
    found found_is solved.of_file
written_accepted asked old between new found ended output name apart solved is done named
    (OneFailed place failed write) =
    absurd (no_output (WriteFailed place) output (sym failed ∙ is))
written_accepted asked old between new found ended output name apart solved is done named
    (OneUnwritten memory part) =
    absurd (no_output Memory output (sym memory ∙ is))

-- ---- how a run ends with status 0

code_cases : (status : ExitStatus) → code_of status ≡ 0 → status ≡ Done
code_cases Done zero = refl
code_cases RefusedWords zero = absurd (omega (arith, zero))
code_cases WorkLimit zero = absurd (omega (arith, zero))
code_cases StoreLimit zero = absurd (omega (arith, zero))
code_cases RefusedInput zero = absurd (omega (arith, zero))
code_cases ShelfFailed zero = absurd (omega (arith, zero))
code_cases SinkFailed zero = absurd (omega (arith, zero))
code_cases NoMemory zero = absurd (omega (arith, zero))
code_cases Rejected zero = absurd (omega (arith, zero))

not_done : (status other : ExitStatus) → status ≡ other → (code_of other ≡ 0 → ⊥)
    → status ≡ Done → ⊥
not_done status other is failed done = failed (ap code_of (sym is ∙ done))

put_done : (old new : SinkState) (text : List ℕ) (meant status : ExitStatus)
    → IsPut old new text meant status → status ≡ Done → meant ≡ Done
put_done old new text meant status (Whole whole) done = sym whole.exit ∙ done
put_done old new text meant status (Broken broken) done =
    absurd (not_done status SinkFailed broken.exit (λ z. omega (arith, z)) done)
put_done old new text meant status (Unput unput) done =
    absurd (not_done status NoMemory unput.exit (λ z. omega (arith, z)) done)

put_not_done : (old new : SinkState) (text : List ℕ) (meant status : ExitStatus)
    → IsPut old new text meant status → (code_of meant ≡ 0 → ⊥) → status ≡ Done → ⊥
put_not_done old new text meant status put failed done =
    failed (ap code_of (put_done old new text meant status put done))

failure_not_done : (failure : Failure) (old new : SinkState) (status : ExitStatus)
    → FailsAs failure old new status → status ≡ Done → ⊥
failure_not_done Words old new status fails done =
    put_not_done old new _ RefusedWords status fails (λ z. omega (arith, z)) done
failure_not_done Length old new status fails done =
    put_not_done old new _ RefusedInput status fails (λ z. omega (arith, z)) done
failure_not_done (Mps line kind) old new status fails done =
    put_not_done old new _ RefusedInput status fails (λ z. omega (arith, z)) done
failure_not_done (Model reason) old new status fails done =
    put_not_done old new _ RefusedInput status fails (λ z. omega (arith, z)) done
failure_not_done (Cert line kind) old new status fails done =
    put_not_done old new _ RefusedInput status fails (λ z. omega (arith, z)) done
failure_not_done ReadFailed old new status fails done =
    not_done status ShelfFailed fails.exit (λ z. omega (arith, z)) done
failure_not_done (WriteFailed place) old new status fails done =
    not_done status ShelfFailed fails.exit (λ z. omega (arith, z)) done
failure_not_done Memory old new status fails done =
    not_done status NoMemory fails.exit (λ z. omega (arith, z)) done

-- ---- the certificate file after status 0

solved_cases : (asked : SolveJob) (old new : ShelfState) (before after : SinkState)
    (status : ExitStatus) (ended : Result Output Failure) (name : List ℕ)
    → IsTrue (names_differ asked.cert asked.log) → IsSolvedFile asked old new ended
    → EndsAs ended before after status → status ≡ Done → asked.cert ≡ Some name
    → IsAcceptedFile asked name old new
solved_cases asked old new before after status (Ok output) name apart solved ending done named =
    written_accepted asked old solved.between new solved.found (Ok output) output name apart
    solved.solved refl (put_done before after output.text output.exit status ending done) named
    solved.written
solved_cases asked old new before after status (Err failure) name apart solved ending done named =
    absurd (failure_not_done failure before after status ending done)

-- a run that solves a model
pub accepted_if_named : (asked : SolveJob) (old new : ShelfState) (before after : SinkState)
    (code : ℕ) → IsTrue (names_differ asked.cert asked.log)
    → Ends (IsSolvedFile asked old new) before after code → IsAcceptedIfNamed asked old new code
accepted_if_named asked old new before after code apart ends = record {
  each = λ name named zero. solved_cases asked old new before after ends.status ends.ended name
      apart ends.cause ends.ending (code_cases ends.status (sym ends.exit ∙ zero)) named;
}

failed_cases : (asked : Job) (old new : ShelfState) (code : ℕ) → (code ≡ 0 → ⊥)
    → IsAcceptedIfSolved asked old new code
failed_cases (Solve asked) old new code failed =
    record { each = λ name named zero. absurd (failed zero) }
failed_cases (Alone asked) old new code failed =
    record { each = λ name named zero. absurd (failed zero) }
failed_cases (Check asked) old new code failed = tt
failed_cases (Show model) old new code failed = tt
failed_cases (Gen number) old new code failed = tt
failed_cases (Sample asked) old new code failed = tt

failure_code : (failure : Failure) (ended : Result Output Failure) (before after : SinkState)
    (status : ExitStatus) → ended ≡ Err failure → EndsAs ended before after status
    → code_of status ≡ 0 → ⊥
failure_code failure ended before after status is ending zero =
    failure_not_done failure before after status
    (subst (λ (e : Result Output Failure). EndsAs e before after status) is ending)
    (code_cases status zero)

-- a run that fails with this has another status
pub failed_if_asked : (words : List (List ℕ)) (failure : Failure) (old new : ShelfState)
    (before after : SinkState) (code : ℕ)
    → Ends (λ (e : Result Output Failure). e ≡ Err failure) before after code
    → IsAcceptedIfAsked words old new code
failed_if_asked words failure old new before after code ends = record {
  each = λ asked is. failed_cases asked old new code (λ zero.
      failure_code failure ends.ended before after ends.status ends.cause ends.ending
      (sym ends.exit ∙ zero));
}

same_job : (a b : Job) → Some a ≡ Some b → a ≡ b
same_job a b same = cc

-- a run that does the job that the words ask for
pub accepted_if_asked : (words : List (List ℕ)) (asked : Job) (old new : ShelfState) (code : ℕ)
    → job words ≡ Some asked → IsAcceptedIfSolved asked old new code
    → IsAcceptedIfAsked words old new code
accepted_if_asked words asked old new code is accepted = record {
  each = λ other same. subst (λ (j : Job). IsAcceptedIfSolved j old new code)
      (same_job asked other (sym is ∙ same)) accepted;
}
