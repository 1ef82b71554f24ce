-- Worked rows of the words.
use Rattle.std.proofs.Common.{ℕ, ◌≡◌, true, false, List, [], ◌∷◌, Option, Some, None, codes, refl}
use Rattle.xsearch_words.specs.Jobs.{job}
use Rattle.xsearch_words.specs.declared.job.Job.{Job}
use Rattle.xsearch_words.specs.declared.job.Job.TheVariants.{Solve, Alone, Check, Show, Gen, Sample}
use Rattle.xsearch_words.specs.declared.job.SolveJob.{SolveJob}

abbrev search : List ℕ → ℕ → ℕ → ℕ → Option ℕ → SolveJob
search model tasks work store default_upper = record {
  model = model;
  cert = None;
  log = None;
  tune = record { tasks = tasks; work = work; store = store; cuts = true; heuristics = true };
  threads = 4;
  default_upper = default_upper;
}

abbrev with_log : List ℕ → SolveJob → SolveJob
with_log name asked = record asked { log = Some name }

abbrev with_cert : List ℕ → SolveJob → SolveJob
with_cert name asked = record asked { cert = Some name }

abbrev on_threads : ℕ → SolveJob → SolveJob
on_threads threads asked = record asked { threads = threads }

abbrev without_cuts : SolveJob → SolveJob
without_cuts asked = record asked { tune = record (asked.tune) { cuts = false } }

abbrev without_dives : SolveJob → SolveJob
without_dives asked = record asked { tune = record (asked.tune) { heuristics = false } }

abbrev solve : List ℕ → ℕ → Option ℕ → Option Job
solve model work default_upper = Some (Solve (search model 4 work 1048576 default_upper))

abbrev solve_in : List ℕ → ℕ → ℕ → Option Job
solve_in model tasks store = Some (Solve (search model tasks 200000000 store None))

plain : job (codes "solve" ∷ codes "m3" ∷ []) ≡ solve (codes "m3") 200000000 None
plain = refl

leading_zeros : job (codes "solve" ∷ codes "--work=007" ∷ codes "m3" ∷ []) ≡ solve (codes "m3") 7 None
leading_zeros = refl

all_options : job (codes "solve" ∷ codes "--default-upper=0" ∷ codes "m3" ∷ codes "--work=1000000000000" ∷ []) ≡ solve (codes "m3") 1000000000000 (Some 0)
all_options = refl

doubled_key : job (codes "solve" ∷ codes "m3" ∷ codes "--work=5" ∷ codes "--work=5" ∷ []) ≡ None
doubled_key = refl

too_much_work : job (codes "solve" ∷ codes "m3" ∷ codes "--work=1000000000001" ∷ []) ≡ None
too_much_work = refl

no_words : job [] ≡ None
no_words = refl

no_name : job (codes "solve" ∷ []) ≡ None
no_name = refl

unknown_option : job (codes "solve" ∷ codes "m3" ∷ codes "-x" ∷ []) ≡ None
unknown_option = refl

two_names : job (codes "solve" ∷ codes "a" ∷ codes "b" ∷ []) ≡ None
two_names = refl

empty_name : job (codes "solve" ∷ [] ∷ []) ≡ None
empty_name = refl

empty_word : job (codes "solve" ∷ codes "m3" ∷ [] ∷ []) ≡ None
empty_word = refl

option_first : job (codes "--work=3" ∷ []) ≡ None
option_first = refl

no_equals : job (codes "solve" ∷ codes "m3" ∷ codes "--work" ∷ []) ≡ None
no_equals = refl

empty_value : job (codes "solve" ∷ codes "m3" ∷ codes "--work=" ∷ []) ≡ None
empty_value = refl

second_equals : job (codes "solve" ∷ codes "m3" ∷ codes "--work==5" ∷ []) ≡ None
second_equals = refl

two_dashes : job (codes "solve" ∷ codes "--" ∷ codes "m3" ∷ []) ≡ None
two_dashes = refl

help : job (codes "--help" ∷ []) ≡ None
help = refl

greatest_upper : job (codes "solve" ∷ codes "m" ∷ codes "--default-upper=2147483648" ∷ []) ≡ solve (codes "m") 200000000 (Some 2147483648)
greatest_upper = refl

too_great_upper : job (codes "solve" ∷ codes "m" ∷ codes "--default-upper=2147483649" ∷ []) ≡ None
too_great_upper = refl

third_of_the_store : job (codes "solve" ∷ codes "m" ∷ codes "--tasks=3" ∷ []) ≡ solve_in (codes "m") 3 1398101
third_of_the_store = refl

too_many_tasks : job (codes "solve" ∷ codes "m3" ∷ codes "--tasks=65" ∷ []) ≡ None
too_many_tasks = refl

no_tasks : job (codes "solve" ∷ codes "m3" ∷ codes "--tasks=0" ∷ []) ≡ None
no_tasks = refl

whole_store : job (codes "solve" ∷ codes "m3" ∷ codes "--tasks=64" ∷ codes "--store=65536" ∷ []) ≡ solve_in (codes "m3") 64 65536
whole_store = refl

too_great_stores : job (codes "solve" ∷ codes "m3" ∷ codes "--tasks=64" ∷ codes "--store=65537" ∷ []) ≡ None
too_great_stores = refl

least_store : job (codes "solve" ∷ codes "m3" ∷ codes "--store=64" ∷ []) ≡ solve_in (codes "m3") 4 64
least_store = refl

too_small_store : job (codes "solve" ∷ codes "m3" ∷ codes "--store=63" ∷ []) ≡ None
too_small_store = refl

store_of_one_task : job (codes "solve" ∷ codes "m3" ∷ codes "--store=4194304" ∷ codes "--tasks=1" ∷ []) ≡ solve_in (codes "m3") 1 4194304
store_of_one_task = refl

too_great_store : job (codes "solve" ∷ codes "m3" ∷ codes "--store=4194305" ∷ codes "--tasks=1" ∷ []) ≡ None
too_great_store = refl

store_of_four_tasks : job (codes "solve" ∷ codes "m3" ∷ codes "--store=1048577" ∷ []) ≡ None
store_of_four_tasks = refl

cuts_without_being_told : job (codes "solve" ∷ codes "m3" ∷ codes "--cuts=yes" ∷ []) ≡ job (codes "solve" ∷ codes "m3" ∷ [])
cuts_without_being_told = refl

no_cuts : job (codes "alone" ∷ codes "--cuts=no" ∷ codes "m3" ∷ []) ≡ Some (Alone (without_cuts (search (codes "m3") 4 200000000 1048576 None)))
no_cuts = refl

dives_without_being_told : job (codes "solve" ∷ codes "m3" ∷ codes "--heuristics=yes" ∷ []) ≡ job (codes "solve" ∷ codes "m3" ∷ [])
dives_without_being_told = refl

no_dives : job (codes "alone" ∷ codes "--heuristics=no" ∷ codes "m3" ∷ []) ≡ Some (Alone (without_dives (search (codes "m3") 4 200000000 1048576 None)))
no_dives = refl

no_switch : job (codes "solve" ∷ codes "m3" ∷ codes "--cuts=No" ∷ []) ≡ None
no_switch = refl

alone : job (codes "alone" ∷ codes "m1" ∷ codes "--default-upper=7" ∷ []) ≡ Some (Alone (search (codes "m1") 4 200000000 1048576 (Some 7)))
alone = refl

log : job (codes "solve" ∷ codes "--log=l" ∷ codes "m3" ∷ []) ≡ Some (Solve (with_log (codes "l") (search (codes "m3") 4 200000000 1048576 None)))
log = refl

log_with_equals : job (codes "alone" ∷ codes "m3" ∷ codes "--log=a=b" ∷ []) ≡ Some (Alone (with_log (codes "a=b") (search (codes "m3") 4 200000000 1048576 None)))
log_with_equals = refl

log_named_as_the_model : job (codes "solve" ∷ codes "m3" ∷ codes "--log=m3" ∷ []) ≡ None
log_named_as_the_model = refl

empty_log : job (codes "solve" ∷ codes "m3" ∷ codes "--log=" ∷ []) ≡ None
empty_log = refl

log_with_a_dash : job (codes "solve" ∷ codes "m3" ∷ codes "--log=-l" ∷ []) ≡ None
log_with_a_dash = refl

two_logs : job (codes "solve" ∷ codes "m3" ∷ codes "--log=a" ∷ codes "--log=b" ∷ []) ≡ None
two_logs = refl

certificate : job (codes "solve" ∷ codes "m3" ∷ codes "--cert=c" ∷ codes "--log=l" ∷ []) ≡ Some (Solve (with_cert (codes "c") (with_log (codes "l") (search (codes "m3") 4 200000000 1048576 None))))
certificate = refl

certificate_named_as_the_model : job (codes "alone" ∷ codes "m3" ∷ codes "--cert=m3" ∷ []) ≡ None
certificate_named_as_the_model = refl

certificate_named_as_the_log : job (codes "solve" ∷ codes "m3" ∷ codes "--cert=a" ∷ codes "--log=a" ∷ []) ≡ None
certificate_named_as_the_log = refl

check : job (codes "check" ∷ codes "m" ∷ codes "c" ∷ []) ≡ Some (Check (record { model = codes "m"; cert = codes "c"; default_upper = None }))
check = refl

check_with_upper : job (codes "check" ∷ codes "m" ∷ codes "--default-upper=3" ∷ codes "m" ∷ []) ≡ Some (Check (record { model = codes "m"; cert = codes "m"; default_upper = Some 3 }))
check_with_upper = refl

check_of_one_name : job (codes "check" ∷ codes "m" ∷ []) ≡ None
check_of_one_name = refl

certificate_of_another : job (codes "check" ∷ codes "m" ∷ codes "c" ∷ codes "--cert=d" ∷ []) ≡ None
certificate_of_another = refl

log_of_another : job (codes "show" ∷ codes "m" ∷ codes "--log=l" ∷ []) ≡ None
log_of_another = refl

many_threads : job (codes "solve" ∷ codes "m3" ∷ codes "--threads=64" ∷ []) ≡ Some (Solve (on_threads 64 (search (codes "m3") 4 200000000 1048576 None)))
many_threads = refl

threads_without_being_told : job (codes "solve" ∷ codes "m3" ∷ codes "--threads=4" ∷ []) ≡ job (codes "solve" ∷ codes "m3" ∷ [])
threads_without_being_told = refl

no_threads : job (codes "alone" ∷ codes "m3" ∷ codes "--threads=0" ∷ []) ≡ None
no_threads = refl

too_many_threads : job (codes "alone" ∷ codes "m3" ∷ codes "--threads=65" ∷ []) ≡ None
too_many_threads = refl

threads_of_another : job (codes "show" ∷ codes "m" ∷ codes "--threads=1" ∷ []) ≡ None
threads_of_another = refl

show : job (codes "show" ∷ codes "m" ∷ []) ≡ Some (Show (codes "m"))
show = refl

option_of_another : job (codes "show" ∷ codes "--default-upper=1" ∷ codes "m" ∷ []) ≡ None
option_of_another = refl

generated : job (codes "gen" ∷ codes "01" ∷ []) ≡ Some (Gen 1)
generated = refl

greatest_number : job (codes "gen" ∷ codes "18446744073709551615" ∷ []) ≡ Some (Gen 18446744073709551615)
greatest_number = refl

too_great_number : job (codes "gen" ∷ codes "18446744073709551616" ∷ []) ≡ None
too_great_number = refl

twenty_digits : job (codes "gen" ∷ codes "00000000000000000007" ∷ []) ≡ Some (Gen 7)
twenty_digits = refl

many_digits : job (codes "gen" ∷ codes "000000000000000000007" ∷ []) ≡ None
many_digits = refl

no_digit : job (codes "gen" ∷ codes "1x" ∷ []) ≡ None
no_digit = refl

sample : job (codes "sample" ∷ codes "01" ∷ codes "--work=7" ∷ []) ≡ Some (Sample (record { number = 1; tune = record { tasks = 4; work = 7; store = 1048576; cuts = true; heuristics = true }; threads = 4 }))
sample = refl

sample_on_threads : job (codes "sample" ∷ codes "--threads=2" ∷ codes "1" ∷ codes "--work=7" ∷ []) ≡ Some (Sample (record { number = 1; tune = record { tasks = 4; work = 7; store = 1048576; cuts = true; heuristics = true }; threads = 2 }))
sample_on_threads = refl

sample_without_a_number : job (codes "sample" ∷ codes "m3" ∷ []) ≡ None
sample_without_a_number = refl

log_of_a_sample : job (codes "sample" ∷ codes "1" ∷ codes "--log=l" ∷ []) ≡ None
log_of_a_sample = refl
