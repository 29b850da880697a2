-- A text that was added to and reads back. Assumes nothing.
use Rattle.std.specs.Prelude.{◌≡◌, ℕ, List, ◌++◌, OnOk, Result, Ok, Err}
use Rattle.script.specs.Values.{Wrote}

pub wrote : {T E : Type 0} (r : Result T E) (before after text : List ℕ) (ReadsBack : Type 0) → OnOk r (after ≡ before ++ text) → ReadsBack → OnOk r (Wrote before after text ReadsBack)
wrote (Ok x) before after text ReadsBack adds back = record { adds = adds; reads_back = back }
wrote (Err e) before after text ReadsBack adds back = tt
