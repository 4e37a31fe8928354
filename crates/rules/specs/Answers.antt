-- One case of an answer, and `other` for the rest. (A definition by cases has no catch-all.)
use Rattle.std.specs.Prelude.{ℕ, Bool, true, false}
use Rattle.kinds.specs.declared.Value.{Value}
use Rattle.kinds.specs.declared.Answer.{Answer}
use Rattle.kinds.specs.declared.Answer.TheVariants.{Refused, Done, Begun, Found, Searched, Committed, Aborted, Installed}
use Rattle.kinds.specs.declared.Answer.TheVariants.{Reported, Emitted, Replayed, Standing, Paged, Offset}

-- by cases; a refusal, an abort, and what search, report, emit, value and the conversions answer are `other`
abbrev pub on_answer : {A : Type 0} → A → A → (ℕ → A) → (Value → A) → (ℕ → A) → (ℕ → ℕ → A) → (ℕ → ℕ → A) → Answer → A
on_answer other done begun found committed installed replayed (Refused n) = other
on_answer other done begun found committed installed replayed Done = done
on_answer other done begun found committed installed replayed (Begun tx) = begun tx
on_answer other done begun found committed installed replayed (Found v) = found v
on_answer other done begun found committed installed replayed (Searched v n) = other
on_answer other done begun found committed installed replayed (Committed n) = committed n
on_answer other done begun found committed installed replayed (Aborted r) = other
on_answer other done begun found committed installed replayed (Installed n c) = installed n c
on_answer other done begun found committed installed replayed (Reported n) = other
on_answer other done begun found committed installed replayed (Emitted n c tx) = other
on_answer other done begun found committed installed replayed (Replayed n c) = replayed n c
on_answer other done begun found committed installed replayed (Standing v n c) = other
on_answer other done begun found committed installed replayed (Paged p r) = other
on_answer other done begun found committed installed replayed (Offset o) = other

abbrev pub on_done : {A : Type 0} → A → A → Answer → A
on_done other f = on_answer other f (λ tx. other) (λ v. other) (λ n. other) (λ n c. other) (λ n c. other)

abbrev pub on_begun : {A : Type 0} → A → (ℕ → A) → Answer → A
on_begun other f = on_answer other other f (λ v. other) (λ n. other) (λ n c. other) (λ n c. other)

abbrev pub on_found : {A : Type 0} → A → (Value → A) → Answer → A
on_found other f = on_answer other other (λ tx. other) f (λ n. other) (λ n c. other) (λ n c. other)

abbrev pub on_committed : {A : Type 0} → A → (ℕ → A) → Answer → A
on_committed other f = on_answer other other (λ tx. other) (λ v. other) f (λ n c. other) (λ n c. other)

abbrev pub on_installed : {A : Type 0} → A → (ℕ → ℕ → A) → Answer → A
on_installed other f = on_answer other other (λ tx. other) (λ v. other) (λ n. other) f (λ n c. other)

abbrev pub on_replayed : {A : Type 0} → A → (ℕ → ℕ → A) → Answer → A
on_replayed other f = on_answer other other (λ tx. other) (λ v. other) (λ n. other) (λ n c. other) f

abbrev pub is_refused : Answer → Bool
is_refused (Refused n) = true
is_refused Done = false
is_refused (Begun tx) = false
is_refused (Found v) = false
is_refused (Searched v n) = false
is_refused (Committed n) = false
is_refused (Aborted r) = false
is_refused (Installed n c) = false
is_refused (Reported n) = false
is_refused (Emitted n c tx) = false
is_refused (Replayed n c) = false
is_refused (Standing v n c) = false
is_refused (Paged p r) = false
is_refused (Offset o) = false
