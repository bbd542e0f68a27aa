-- What a fault that ends a run leaves written.
use Rattle.std.proofs.Common.{◌≡◌, ◌<◌, ◌∙◌, ℕ, Bool, true, List, [], ◌∷◌, arith, length, Option, None, Some, inl, refl, sym, subst}
use Rattle.std.specs.Prelude.{IfErr, IfOk, IfSome, IsErrOf, OnOk, Result, Ok, Err}
use Rattle.std.specs.Io.KnownBytes.{Appends}
use Rattle.pk_outside.specs.Outside.{AppendsPart, Rose}
use Rattle.pk_outside.specs.declared.sink.SinkFault.{SinkFault}
use Rattle.pk_outside.specs.declared.sink.SinkFault.TheVariants as sink
use Rattle.run_frames.specs.declared.frames.RunFault.{RunFault}
use Rattle.run_frames.specs.declared.frames.RunFault.TheVariants.{ReadFault, WriteFault, NoMemory}
use Rattle.run_frames.specs.declared.plan.Plan.{Plan}
use Rattle.run_frames.specs.declared.run_ending.RunEnding.{RunEnding}
use Rattle.run_frames.specs.declared.run_ending.RunEnding.TheVariants.{Read, Unfit}
use Rattle.run_frames.specs.Accessors.{two_of}
use Rattle.run_frames.specs.Job.{IfOnce}
use Rattle.run_passes.specs.Passed.{AreCutOff, AreEndNear, AreFewer, AreFullNear, IsCalm, IsCaused, IsReadCaused, IsWriteCaused}
use Rattle.run_passes.specs.Reading.{frames_read}
use Rattle.run_passes.specs.SoFar.{IsNearAfter}
use Rattle.run_frames.proofs.CalmLemmas.{calm_starved}
use Rattle.run_passes.proofs.FaultLemmas.{rose_before}
use Rattle.shark_run.specs.Ends.{run_fault_of}
use Rattle.run_output.specs.Lines.{opening}
use Rattle.shark_run.specs.Way.{IsBodyCutOff, IsBrokenFrom, IsCutOff}
use Rattle.shark_run.proofs.BodyLemmas.{twice_unread}
use Rattle.shark_run.proofs.OpeningLemmas.{near_behind, near_opened, once_holds, so_far_behind}

-- bytes that aren't none
pub some_bytes : (bytes : List ℕ) → ¬ (bytes ≡ []) → 0 < length bytes
some_bytes [] some = absurd (some refl)
some_bytes (byte ∷ bytes) some = omega arith

-- what holds of every value
pub all_ok : {A E : Type 0} (answer : Result A E) (P : A → Type 0) → ((value : A) → P value) → IfOk answer P
all_ok (Ok value) P all = all value
all_ok (Err error) P all = tt

-- a write behind the lines failed, or there was no memory for it
pub write_caused : {A : Type 0} (fault : SinkFault) (answer : RunFault) (old now new : ℕ) → answer ≡ run_fault_of fault → now ≡ old
    → (IsErrOf {T = A} {E = SinkFault} (Err fault) sink.Failed → Rose now new) → (¬ IsErrOf {T = A} {E = SinkFault} (Err fault) sink.Failed → new ≡ now) → IsWriteCaused old new answer
write_caused sink.Failed answer old now new is same fails calm = subst (IsWriteCaused old new) (sym is) (rose_before old now new same (fails refl))
write_caused sink.NoMemory answer old now new is same fails calm =
    subst (IsWriteCaused old new) (sym is) (calm_starved sink.NoMemory now new refl calm ∙ same)

pub closing_caused : {A : Type 0} (fault : SinkFault) (answer : RunFault) (reads_old reads_new old now new : ℕ) → answer ≡ run_fault_of fault → reads_new ≡ reads_old → now ≡ old
    → (IsErrOf {T = A} {E = SinkFault} (Err fault) sink.Failed → Rose now new) → (¬ IsErrOf {T = A} {E = SinkFault} (Err fault) sink.Failed → new ≡ now)
    → IsCaused reads_old reads_new old new answer
closing_caused sink.Failed answer reads_old reads_new old now new is reads same fails calm =
    subst (IsCaused reads_old reads_new old new) (sym is) (rose_before old now new same (fails refl), reads)
closing_caused sink.NoMemory answer reads_old reads_new old now new is reads same fails calm =
    subst (IsCaused reads_old reads_new old new) (sym is) (record { reads = reads; writes = calm_starved sink.NoMemory now new refl calm ∙ same })

-- where the frames are read once, and where they are read twice
told_once : (two : Bool) (told : Option (List ℕ)) (P : List ℕ → Type 0) → IfSome told P → IfSome told (λ file. IfOnce two (P file))
told_once two None P holds = tt
told_once two (Some file) P holds = once_holds two holds

told_twice : (two : Bool) (told : Option (List ℕ)) (P : List ℕ → Type 0) → two ≡ true → IfSome told (λ file. IfOnce two (P file))
told_twice two None P is = tt
told_twice two (Some file) P is = subst (λ (t : Bool). IfOnce t (P file)) (sym is) tt

-- a frame's line, or what stands behind the lines, was cut off
pub body_cut_off : (plan : Plan) (told left old new : Option (List ℕ)) (fault : RunFault) → AreCutOff plan told left old new fault
    → IsBodyCutOff plan told left old new fault
body_cut_off plan told left old new ReadFault is = is
body_cut_off plan None left old new WriteFault is = tt
body_cut_off plan (Some file) left old new WriteFault is = once_holds (two_of plan) (inl is)
body_cut_off plan told left old new NoMemory is = tt

pub closing_cut_off : (plan : Plan) (told left old new : Option (List ℕ)) → IfSome told (λ file. IsBrokenFrom [] plan file left old new)
    → (fault : SinkFault) (answer : RunFault) → answer ≡ run_fault_of fault → IsBodyCutOff plan told left old new answer
closing_cut_off plan told left old new broken sink.Failed answer is =
    subst (IsBodyCutOff plan told left old new) (sym is) (told_once (two_of plan) told (λ file. IsBrokenFrom [] plan file left old new) broken)
closing_cut_off plan told left old new broken sink.NoMemory answer is = subst (IsBodyCutOff plan told left old new) (sym is) tt

-- nothing was written before all was read
pub twice_cut_off : (plan : Plan) (told left old : Option (List ℕ)) (reads_old reads_new : ℕ) (fault : RunFault) → two_of plan ≡ true
    → IsReadCaused reads_old reads_new fault → AreFewer plan told left fault → IsBodyCutOff plan told left old old fault
twice_cut_off plan told left old reads_old reads_new ReadFault two caused fewer = twice_unread plan told left old two fewer
twice_cut_off plan told left old reads_old reads_new WriteFault two caused fewer = absurd caused
twice_cut_off plan told left old reads_old reads_new NoMemory two caused fewer = tt

pub again_cut_off : (plan : Plan) (told left old new : Option (List ℕ)) (writes_old writes_new : ℕ) (fault : RunFault) → two_of plan ≡ true
    → IsWriteCaused writes_old writes_new fault → IsBodyCutOff plan told left old new fault
again_cut_off plan told left old new writes_old writes_new ReadFault two caused = absurd caused
again_cut_off plan told left old new writes_old writes_new WriteFault two caused =
    told_twice (two_of plan) told (λ file. IsBrokenFrom [] plan file left old new) two
again_cut_off plan told left old new writes_old writes_new NoMemory two caused = tt

-- the opening was cut off, or what stands behind it
pub opening_cut_off : (plan : Plan) (told old new : Option (List ℕ)) (writes_old writes_new : ℕ) (fault : RunFault) → IsWriteCaused writes_old writes_new fault
    → (fault ≡ WriteFault → 0 < length (opening plan)) → AppendsPart old new (opening plan) → IsCutOff plan told told old new fault
opening_cut_off plan told old new writes_old writes_new ReadFault caused some part = absurd caused
opening_cut_off plan told old new writes_old writes_new WriteFault caused some part = near_opened plan told old new (some refl) part
opening_cut_off plan told old new writes_old writes_new NoMemory caused some part = tt

fault_behind : (plan : Plan) (told left old now new : Option (List ℕ)) (fault : RunFault) → Appends old now (opening plan)
    → IsBodyCutOff plan told left now new fault → IsCutOff plan told left old new fault
fault_behind plan told left old now new ReadFault opened broken = so_far_behind plan told left old now new opened broken
fault_behind plan told left old now new WriteFault opened broken = near_behind plan told left old now new opened broken
fault_behind plan told left old now new NoMemory opened broken = tt

pub cut_off_behind : (answer : Result RunEnding RunFault) (plan : Plan) (told left old now new : Option (List ℕ)) → Appends old now (opening plan)
    → IfErr answer (IsBodyCutOff plan told left now new) → IfErr answer (IsCutOff plan told left old new)
cut_off_behind (Ok ending) plan told left old now new opened broken = tt
cut_off_behind (Err fault) plan told left old now new opened broken = fault_behind plan told left old now new fault opened broken

-- before that no write failed
fault_after : (reads_old reads_new old now new : ℕ) (fault : RunFault) → now ≡ old → IsCaused reads_old reads_new now new fault
    → IsCaused reads_old reads_new old new fault
fault_after reads_old reads_new old now new ReadFault same is = (is.0, is.1 ∙ same)
fault_after reads_old reads_new old now new WriteFault same is = (rose_before old now new same is.0, is.1)
fault_after reads_old reads_new old now new NoMemory same is = record { reads = is.reads; writes = is.writes ∙ same }

pub caused_behind : (answer : Result RunEnding RunFault) (reads_old reads_new old now new : ℕ) → now ≡ old
    → IfErr answer (IsCaused reads_old reads_new now new) → IfErr answer (IsCaused reads_old reads_new old new)
caused_behind (Ok ending) reads_old reads_new old now new same caused = tt
caused_behind (Err fault) reads_old reads_new old now new same caused = fault_after reads_old reads_new old now new fault same caused

pub calm_behind : (answer : Result RunEnding RunFault) (reads_old reads_new old now new : ℕ) → now ≡ old
    → OnOk answer (IsCalm reads_old reads_new now new) → OnOk answer (IsCalm reads_old reads_new old new)
calm_behind (Ok ending) reads_old reads_new old now new same calm = record { reads = calm.reads; writes = calm.writes ∙ same }
calm_behind (Err fault) reads_old reads_new old now new same calm = tt

-- where the frames are read twice, nothing is told of how near the bytes taken end
pub near_twice : (plan : Plan) (told left : Option (List ℕ)) (ending : RunEnding) → two_of plan ≡ true → AreFullNear plan told left
    → AreEndNear plan told left ending
near_twice plan told left (Read ending) two full = (full, tt)
near_twice plan told left (Unfit number) two full =
    (full, told_twice (two_of plan) told (λ file. IsNearAfter file (length (frames_read plan file).frames) left) two)
