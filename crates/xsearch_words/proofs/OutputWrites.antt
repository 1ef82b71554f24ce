-- Files that are written one after the other.
use Rattle.std.proofs.Common.{◌≡◌, ◌∙◌, ℕ, suc, ◌+◌, ◌<◌, List, [], ◌∷◌, ◌++◌, length, get_or, take, length-take, Option, Some, None, refl, sym, ap, subst, arith}
use Rattle.std.specs.List.{slice_get}
use Rattle.std.specs.Option.{option_map}
use Rattle.std.proofs.lemmas.List.{length_push, take_more}
use Rattle.std.proofs.lemmas.List.Sums.{fold_push}
use Rattle.std.proofs.lemmas.Option.{get_or_from_slice_get, slice_get_read}
use Rattle.xsearch_words.specs.Faults.{HasFailed, failed_write, next_count}
use Rattle.xsearch_words.specs.Files.{Files, MaySetFront, SetsFile, with_file}
use Rattle.xsearch_words.specs.Outputs.{AreWritten, AreWrittenInPart, IsFailedWrite, count_after, with_told_files}
use Rattle.xsearch_words.specs.Shelf.{HasNoFault, ShelfState}
use Rattle.xsearch_words.specs.declared.output.OutputFile.{OutputFile}

add-one : (n : ℕ) → n + 1 ≡ suc n
add-one n = omega arith

-- a count after one more
count_after_next : (more count : ℕ) → count_after (more + 1) count ≡ next_count (count_after more count)
count_after_next more count = ap (λ (n : ℕ). count_after n count) (add-one more)

none_told : (files : Option Files) → files ≡ with_told_files [] files
none_told None = refl
none_told (Some files) = refl

-- nothing is written yet
pub none_written : (state : ShelfState) → AreWritten [] state state
none_written state = record {
  files = none_told state.files;
  quiet = record { faults = refl; last = refl };
  calls = refl;
}

next_told : (outputs : List OutputFile) (output : OutputFile) (old : Option Files) → option_map (with_file output.name output.text) (with_told_files outputs old) ≡ with_told_files (outputs ++ output ∷ []) old
next_told outputs output None = refl
next_told outputs output (Some files) = ap Some (sym (fold_push (λ so_far next. with_file next.name next.text so_far) files outputs output))

one_more_written : (outputs : List OutputFile) (output : OutputFile) (old mid new : ShelfState) → AreWritten outputs old mid
    → SetsFile mid.files new.files output.name output.text → HasNoFault mid new → new.calls ≡ next_count mid.calls
    → AreWritten (outputs ++ output ∷ []) old new
one_more_written outputs output old mid new written set quiet call = record {
  files = set ∙ (ap (option_map (with_file output.name output.text)) written.files ∙ next_told outputs output old.files);
  quiet = record { faults = quiet.faults ∙ written.quiet.faults; last = quiet.last ∙ written.quiet.last };
  calls = call ∙ (ap next_count written.calls ∙ (sym (count_after_next (length outputs) old.calls) ∙ ap (λ (n : ℕ). count_after n old.calls) (sym (length_push outputs output))));
}

at_place : (outputs : List OutputFile) (place : ℕ) (output : OutputFile) → place < length outputs → output ≡ get_or outputs place output → slice_get outputs place ≡ Some output
at_place outputs place output within here = slice_get_read outputs (length outputs) place output refl within here

take_next : (outputs : List OutputFile) (place : ℕ) (output : OutputFile) → place < length outputs → slice_get outputs place ≡ Some output
    → take place outputs ++ output ∷ [] ≡ take (place + 1) outputs
take_next outputs place output within here =
    sym (take_more outputs place output within ∙ ap (λ (next : OutputFile). take place outputs ++ next ∷ []) (get_or_from_slice_get outputs place output output here))

-- the next file is written, with these bytes as its text
pub next_written : (outputs : List OutputFile) (place : ℕ) (output : OutputFile) (bytes : List ℕ) (old mid new : ShelfState) → AreWritten (take place outputs) old mid
    → place < length outputs → output ≡ get_or outputs place output → bytes ≡ output.text
    → SetsFile mid.files new.files output.name bytes → HasNoFault mid new → new.calls ≡ next_count mid.calls
    → AreWritten (take (place + 1) outputs) old new
next_written outputs place output bytes old mid new written within here text set quiet call =
    subst (λ (first : List OutputFile). AreWritten first old new) (take_next outputs place output within (at_place outputs place output within here))
    (one_more_written (take place outputs) output old mid new written (subst (SetsFile mid.files new.files output.name) text set) quiet call)

length_taken : (outputs : List OutputFile) (place : ℕ) → place < length outputs → length (take place outputs) ≡ place
length_taken outputs place within = omega (arith, within, length-take place outputs)

-- the calls after the files before a place, and one more
calls_to : (outputs : List OutputFile) (place : ℕ) (old mid new : ShelfState) → place < length outputs → AreWritten (take place outputs) old mid
    → new.calls ≡ next_count mid.calls → new.calls ≡ count_after (place + 1) old.calls
calls_to outputs place old mid new within written call =
    call ∙ (ap next_count (written.calls ∙ ap (λ (n : ℕ). count_after n old.calls) (length_taken outputs place within)) ∙ sym (count_after_next place old.calls))

-- the write of the next file failed
pub next_failed : (outputs : List OutputFile) (place : ℕ) (output : OutputFile) (bytes : List ℕ) (old mid new : ShelfState) → AreWritten (take place outputs) old mid
    → place < length outputs → output ≡ get_or outputs place output → bytes ≡ output.text → MaySetFront mid.files new.files output.name bytes
    → HasFailed mid.faults new.faults new.last (failed_write output.name) → new.calls ≡ next_count mid.calls
    → IsFailedWrite place outputs old new
next_failed outputs place output bytes old mid new written within here text left failed call = record {
  output = output;
  here = at_place outputs place output within here;
  files = subst (λ files. MaySetFront files new.files output.name output.text) written.files (subst (MaySetFront mid.files new.files output.name) text left);
  failed = subst (λ count. HasFailed count new.faults new.last (failed_write output.name)) written.quiet.faults failed;
  calls = calls_to outputs place old mid new within written call;
}

-- there was no memory for the write of the next file
pub next_unwritten : (outputs : List OutputFile) (place : ℕ) (old mid new : ShelfState) → AreWritten (take place outputs) old mid → place < length outputs
    → new.files ≡ mid.files → HasNoFault mid new → new.calls ≡ next_count mid.calls → AreWrittenInPart outputs old new
next_unwritten outputs place old mid new written within same quiet call = record {
  place = place;
  within = within;
  files = same ∙ written.files;
  quiet = record { faults = quiet.faults ∙ written.quiet.faults; last = quiet.last ∙ written.quiet.last };
  calls = calls_to outputs place old mid new within written call;
}
