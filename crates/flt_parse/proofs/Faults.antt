-- No text is a filter and has a fault; the first fault is the only one.
use Rattle.std.proofs.Common.{◌≡◌, ℕ, ◌<◌, List, [], ◌∷◌, ◌++◌, length, append_assoc, arith, sym, ap, ◌∙◌, refl, subst}
use Rattle.std.proofs.lemmas.List.{append-nil}
use Rattle.flt_syntax.specs.Filters.{IsFilterText, IsFaultFor, IsLexicalFault, IsSyntaxFault, IsFault, BeginsFilter, kinds_of, place_of, most_bytes, most_open}
use Rattle.flt_parse.proofs.Complete.{one_tree}
use Rattle.flt_syntax.specs.Grammar.{IsFilter}
use Rattle.flt_parse.specs.Laws.{NeverBoth, OneFault, OneFilter}
use Rattle.flt_syntax.specs.Written.{Written}
use Rattle.flt_syntax.specs.declared.fault.FilterFault.{FilterFault}
use Rattle.flt_syntax.specs.declared.fault.FilterReason.{FilterReason}
use Rattle.flt_syntax.specs.declared.fault.FilterReason.TheVariants.{BadChar, BadString, Unexpected, TooLong, TooDeep}
use Rattle.flt_syntax.specs.declared.token.Kind.{Kind}
use Rattle.flt_syntax.specs.declared.token.Token.{Token}

kinds_joined : (ts us : List Token) → kinds_of (ts ++ us) ≡ kinds_of ts ++ kinds_of us
kinds_joined [] us = refl
kinds_joined (t ∷ ts) us = ap (λ ks. t.kind ∷ ks) (kinds_joined ts us)

-- what begins with more begins with less
begins_less : (limit : ℕ) (front more : List Kind) (k : Kind) → BeginsFilter limit (front ++ k ∷ more) → BeginsFilter limit (front ++ k ∷ [])
begins_less limit front more k (filter, rest, is) =
    let same : front ++ k ∷ more ++ rest ≡ front ++ k ∷ [] ++ (more ++ rest) = append_assoc front (k ∷ more) rest ∙ sym (append_assoc front (k ∷ []) (more ++ rest)) in
    (filter, more ++ rest, subst (λ ks. IsFilter limit ks filter) same is)

begins_first : (limit : ℕ) (front rest : List Kind) (k : Kind) (filter : Written) → IsFilter limit (front ++ k ∷ rest) filter → BeginsFilter limit (front ++ k ∷ [])
begins_first limit front rest k filter is = (filter, rest, subst (λ ks. IsFilter limit ks filter) (sym (append_assoc front (k ∷ []) rest)) is)

-- a fault stands where no filter is
no_filter : (limit : ℕ) (front rest : List Kind) (reason : FilterReason) (filter : Written) → IsFault limit front rest reason → IsFilter limit (front ++ rest) filter → ⊥
no_filter limit front [] Unexpected filter fault is = fault.1 filter limit (subst (λ ks. IsFilter limit ks filter) (append-nil front) is)
no_filter limit front (k ∷ rest) Unexpected filter fault is = fault.1 limit (begins_first limit front rest k filter is)
no_filter limit front (k ∷ rest) TooDeep filter fault is = fault.1 (begins_first limit front rest k filter is)
no_filter limit front [] reason filter fault is = absurd fault
no_filter limit front (k ∷ rest) reason filter fault is = absurd fault

no_longer : (limit : ℕ) (front more rest : List Kind) (k : Kind) (reason : FilterReason) → IsFault limit front (k ∷ rest) reason → BeginsFilter limit (front ++ k ∷ more) → ⊥
no_longer limit front more rest k Unexpected fault begins = fault.1 limit (begins_less limit front more k begins)
no_longer limit front more rest k TooDeep fault begins = fault.1 (begins_less limit front more k begins)
no_longer limit front more rest k reason fault begins = absurd fault

begins_front : (limit : ℕ) (front rest : List Kind) (reason : FilterReason) → IsFault limit front rest reason → BeginsFilter limit front
begins_front limit front [] Unexpected fault = fault.0
begins_front limit front (k ∷ rest) Unexpected fault = fault.0
begins_front limit front (k ∷ rest) TooDeep fault = fault.0
begins_front limit front [] reason fault = absurd fault
begins_front limit front (k ∷ rest) reason fault = absurd fault

-- at one place there is one reason
with_unexpected : (limit : ℕ) (front rest : List Kind) (reason : FilterReason) → IsFault limit front rest Unexpected → IsFault limit front rest reason → Unexpected ≡ reason
with_unexpected limit front [] Unexpected f g = refl
with_unexpected limit front (k ∷ rest) Unexpected f g = refl
with_unexpected limit front (k ∷ rest) TooDeep f g = absurd (f.1 g.2.0 g.2.1)
with_unexpected limit front [] reason f g = absurd g
with_unexpected limit front (k ∷ rest) reason f g = absurd g

with_deep : (limit : ℕ) (front rest : List Kind) (k : Kind) (reason : FilterReason) → IsFault limit front (k ∷ rest) TooDeep → IsFault limit front (k ∷ rest) reason → TooDeep ≡ reason
with_deep limit front rest k TooDeep f g = refl
with_deep limit front rest k Unexpected f g = absurd (g.1 f.2.0 f.2.1)
with_deep limit front rest k reason f g = absurd g

one_reason : (limit : ℕ) (front rest : List Kind) (r s : FilterReason) → IsFault limit front rest r → IsFault limit front rest s → r ≡ s
one_reason limit front rest Unexpected s f g = with_unexpected limit front rest s f g
one_reason limit front (k ∷ rest) TooDeep s f g = with_deep limit front rest k s f g
one_reason limit front [] r s f g = absurd f
one_reason limit front (k ∷ rest) r s f g = absurd f

-- two ways to part a list: at the same place, or one further on
pub data Parts (ts us vs ws : List Token) : Type 0 where
  Same : (ts ≡ vs) → (us ≡ ws) → Parts ts us vs ws
  Further : (t : Token) (more : List Token) → (vs ≡ ts ++ t ∷ more) → (us ≡ t ∷ (more ++ ws)) → Parts ts us vs ws
  Nearer : (t : Token) (more : List Token) → (ts ≡ vs ++ t ∷ more) → (ws ≡ t ∷ (more ++ us)) → Parts ts us vs ws

behind_both : (t v : Token) (ts us vs ws : List Token) → t ≡ v → Parts ts us vs ws → Parts (t ∷ ts) us (v ∷ vs) ws
behind_both t v ts us vs ws e (Same p q) = Same (ap (λ x. x ∷ ts) e ∙ ap (λ xs. v ∷ xs) p) q
behind_both t v ts us vs ws e (Further x more p q) = Further x more (ap (λ y. y ∷ vs) (sym e) ∙ ap (λ xs. t ∷ xs) p) q
behind_both t v ts us vs ws e (Nearer x more p q) = Nearer x more (ap (λ y. y ∷ ts) e ∙ ap (λ xs. v ∷ xs) p) q

part : (ts us vs ws : List Token) → ts ++ us ≡ vs ++ ws → Parts ts us vs ws
part [] us [] ws e = Same refl e
part [] us (v ∷ vs) ws e = Further v vs refl e
part (t ∷ ts) us [] ws e = Nearer t ts refl (sym e)
part (t ∷ ts) us (v ∷ vs) ws e =
    let first : t ≡ v = cc in let rest : ts ++ us ≡ vs ++ ws = cc in behind_both t v ts us vs ws first (part ts us vs ws rest)

-- a fault before another one is none
no_fault_before : (ts us more ws : List Token) (t : Token) (r s : FilterReason) → IsFault most_open (kinds_of ts) (kinds_of us) r → us ≡ t ∷ (more ++ ws)
    → BeginsFilter most_open (kinds_of (ts ++ t ∷ more)) → ⊥
no_fault_before ts us more ws t r s f there begins =
    no_longer most_open (kinds_of ts) (kinds_of more) (kinds_of (more ++ ws)) t.kind r
    (subst (λ xs. IsFault most_open (kinds_of ts) (kinds_of xs) r) there f)
    (subst (BeginsFilter most_open) (kinds_joined ts (t ∷ more)) begins)

same_fault : (f g : FilterFault) → f.at ≡ g.at → f.reason ≡ g.reason → f ≡ g
same_fault f g at reason =
    ap (λ n. let r : FilterFault = record { at = n; reason = f.reason } in r) at ∙ ap (λ s. let r : FilterFault = record { at = g.at; reason = s } in r) reason

one_token_fault : (end : ℕ) (f g : FilterFault) (ts us vs ws : List Token)
    → f.at ≡ place_of us end → g.at ≡ place_of ws end
    → IsFault most_open (kinds_of ts) (kinds_of us) f.reason → IsFault most_open (kinds_of vs) (kinds_of ws) g.reason → Parts ts us vs ws → f ≡ g
one_token_fault end f g ts us vs ws p q a b (Same e d) =
    same_fault f g (p ∙ ap (λ xs. place_of xs end) d ∙ sym q)
    (one_reason most_open (kinds_of vs) (kinds_of ws) f.reason g.reason
    (subst (λ xs. IsFault most_open (kinds_of xs) (kinds_of ws) f.reason) e (subst (λ xs. IsFault most_open (kinds_of ts) (kinds_of xs) f.reason) d a)) b)
one_token_fault end f g ts us vs ws p q a b (Further t more e d) =
    absurd (no_fault_before ts us more ws t f.reason g.reason a d (subst (λ xs. BeginsFilter most_open (kinds_of xs)) e (begins_front most_open (kinds_of vs) (kinds_of ws) g.reason b)))
one_token_fault end f g ts us vs ws p q a b (Nearer t more e d) =
    absurd (no_fault_before vs ws more us t g.reason f.reason b d (subst (λ xs. BeginsFilter most_open (kinds_of xs)) e (begins_front most_open (kinds_of ts) (kinds_of us) f.reason a)))

one_syntax_fault : (text : List ℕ) (f g : FilterFault) → IsSyntaxFault text f → IsSyntaxFault text g → f ≡ g
one_syntax_fault text f g (short, (tokens, lexed, a)) (again, (others, read, b)) =
    let same : tokens ≡ others = cc in
    let parts : a.front ++ a.rest ≡ b.front ++ b.rest = sym a.parts ∙ same ∙ b.parts in
    one_token_fault (length text) f g a.front a.rest b.front b.rest a.place b.place a.first b.first (part a.front a.rest b.front b.rest parts)

-- the three steps in which a fault is looked for
pub data Step (text : List ℕ) (fault : FilterFault) : Type 0 where
  Long : (most_bytes < length text) → (fault.at ≡ most_bytes) → (fault.reason ≡ TooLong) → Step text fault
  Lexical : IsLexicalFault text fault → Step text fault
  Syntax : IsSyntaxFault text fault → Step text fault

step_of : (text : List ℕ) (fault : FilterFault) (reason : FilterReason) → fault.reason ≡ reason → IsFaultFor reason text fault → Step text fault
step_of text fault TooLong e h = Long h.0 h.1 e
step_of text fault BadChar e h = Lexical h
step_of text fault BadString e h = Lexical h
step_of text fault Unexpected e h = Syntax h
step_of text fault TooDeep e h = Syntax h
step_of text fault reason e h = absurd h

one_of_steps : (text : List ℕ) (f g : FilterFault) → Step text f → Step text g → f ≡ g
one_of_steps text f g (Long a b c) (Long d e h) = same_fault f g (b ∙ sym e) (c ∙ sym h)
one_of_steps text f g (Long a b c) (Lexical h) = absurd (let short = h.0 in omega arith)
one_of_steps text f g (Long a b c) (Syntax h) = absurd (let short = h.0 in omega arith)
one_of_steps text f g (Lexical h) (Long a b c) = absurd (let short = h.0 in omega arith)
one_of_steps text f g (Lexical h) (Lexical k) = let a = h.1 in let b = k.1 in cc
one_of_steps text f g (Lexical h) (Syntax (short, (tokens, lexed, k))) = let a = h.1 in cc
one_of_steps text f g (Syntax h) (Long a b c) = absurd (let short = h.0 in omega arith)
one_of_steps text f g (Syntax (short, (tokens, lexed, k))) (Lexical h) = let a = h.1 in cc
one_of_steps text f g (Syntax h) (Syntax k) = one_syntax_fault text f g h k

pub one_fault : OneFault
one_fault text f g a b = one_of_steps text f g (step_of text f f.reason refl a) (step_of text g g.reason refl b)

not_both : (text : List ℕ) (filter : Written) (fault : FilterFault) → IsFilterText text filter → Step text fault → ⊥
not_both text filter fault is (Long a b c) = let short = is.short in omega arith
not_both text filter fault is (Lexical h) = let a = h.1 in let b = is.lexed in cc
not_both text filter fault is (Syntax (short, (tokens, lexed, k))) =
    let b = is.lexed in
    let same : is.tokens ≡ tokens = cc in
    let kinds : kinds_of is.tokens ≡ kinds_of k.front ++ kinds_of k.rest = ap kinds_of (same ∙ k.parts) ∙ kinds_joined k.front k.rest in
    no_filter most_open (kinds_of k.front) (kinds_of k.rest) fault.reason filter k.first (subst (λ ks. IsFilter most_open ks filter) kinds is.parsed)

pub never_both : NeverBoth
never_both text filter fault is h = not_both text filter fault is (step_of text fault fault.reason refl h)

pub one_filter : OneFilter
one_filter text t u p q =
    let a = p.lexed in
    let b = q.lexed in
    let same : p.tokens ≡ q.tokens = cc in
    one_tree most_open most_open (kinds_of q.tokens) t u (subst (λ ts. IsFilter most_open (kinds_of ts) t) same p.parsed) q.parsed
