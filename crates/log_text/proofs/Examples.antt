-- A log in a small example.
use Rattle.std.proofs.Common.{◌≡◌, true, false, [], ◌∷◌, codes, refl}
use Rattle.std.specs.Fmt.{digits}
use Rattle.log_text.specs.Logs.{log_text}

-- two slots that end at the limit on work, of which one has begun
limited : log_text (record { slots = 2; work = 9; store = 64 }) (record { cuts = false; heuristics = true }) (record { entries = []; records = []; ends = 14 ∷ 1000 ∷ [] }) (codes "worklimit") ≡ codes "xsearch log 1\ntasks 2 work 9 store 64 cuts no heuristics yes\nend 0 14\nend 1 1000\nstatus worklimit\n"
unfolding digits
limited = refl
