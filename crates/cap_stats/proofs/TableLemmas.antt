-- A table, from what a map holds.
use Rattle.std.proofs.Common.{◌≡◌, ◌+◌, ◌<◌, ℕ, suc, List, [], ◌∷◌, ◌++◌, drop, get_or, length, map, decimal, codes, Option, sym, ap, ◌∙◌, append_assoc, append-nil, string_bytes, String, Global, arith}
use Rattle.std.proofs.lemmas.List.{drop_more, length-append, length-map}
use Rattle.std.proofs.lemmas.List.Folds.{flat_map-map}
use Rattle.std.proofs.lemmas.Grind.{flat_map-append}
use Rattle.std.specs.BTreeMap as tree
use Rattle.std.specs.List.{flat_map}
use Rattle.std.specs.Str.{bytes_eq}
use Rattle.cap_stats.specs.declared.counts.Talk.{Talk}
use Rattle.cap_stats.specs.declared.pairs.Pairs.{Pairs}
use Rattle.cap_stats.specs.declared.party.Flight.{Flight}
use Rattle.cap_stats.specs.declared.paths.Paths.{Paths}
use Rattle.cap_stats.specs.declared.streams.Streams.{Streams}
use Rattle.cap_stats.specs.Counts.{of_key, sizes_tally, talk_of}
use Rattle.cap_stats.specs.Keys.{below, same_number, numbers_in, same_pair, pairs_in, texts_in}
use Rattle.cap_stats.specs.Stands.{HasStreams, HasPairs, HasPaths, numbers_of, pair_talk, talk_at, tally_at}
use Rattle.cap_stats.specs.Tables.{table_with, stream_line, pair_line, path_line, streams_table, pairs_table, paths_table}
use Rattle.cap_stats.proofs.StreamLemmas.{length_below}

made : {K V : Type 0} (name : List ℕ) (count : ℕ) (keys wanted : List K) (has is : K → Option V) (line : K → Option V → List ℕ) (text : List ℕ)
    → keys ≡ wanted → count ≡ length keys → ((k : K) → has k ≡ is k)
    → text ≡ (name ++ (decimal count ++ 10 ∷ [])) ++ flat_map (λ k. line k (has k)) keys
    → text ≡ table_with name wanted (λ k. line k (is k))
made {K} {V} name count keys wanted has is line text same counted held written =
    written
    ∙ ap (λ (f : K → List ℕ). (name ++ (decimal count ++ 10 ∷ [])) ++ flat_map f keys) (λ i k. line k (held k i))
    ∙ append_assoc name (decimal count ++ 10 ∷ []) (flat_map (λ k. line k (is k)) keys)
    ∙ ap (λ (rest : List ℕ). name ++ rest) (append_assoc (decimal count) (10 ∷ []) (flat_map (λ k. line k (is k)) keys))
    ∙ ap (λ (n : ℕ). name ++ (decimal n ++ (10 ∷ flat_map (λ k. line k (is k)) keys))) counted
    ∙ ap (λ (ks : List K). table_with name ks (λ k. line k (is k))) same

pub streams_made : (streams : Streams) (notes : List (ℕ × Flight)) (count : ℕ) (begun text : List ℕ)
    → count ≡ length streams.first.items + tree.btree_map_len streams.rest
    → begun ≡ codes "conv tcp " ++ (decimal count ++ 10 ∷ [])
    → text ≡ (begun ++ flat_map (λ n. stream_line n (talk_at streams n)) (below (length streams.first.items)))
    ++ flat_map (λ n. stream_line n (talk_at streams n)) (tree.keys streams.rest)
    → HasStreams notes streams → text ≡ streams_table notes
unfolding streams_table
streams_made streams notes count begun text counted begins written has =
    let line = λ (n : ℕ). stream_line n (talk_at streams n) in
    let numbers = below (length streams.first.items) in
    made (codes "conv tcp ") count (numbers_of streams) (numbers_in notes) (talk_at streams) (λ n. talk_of (of_key same_number n notes)) stream_line text
    has.keys_are
    (counted
    ∙ (λ i. sym (length_below (length streams.first.items)) i + sym (length-map streams.rest.entries (λ (e : ℕ × Talk). e.0)) i)
    ∙ sym (length-append numbers (tree.keys streams.rest)))
    has.talks
    (written ∙ append_assoc begun (flat_map line numbers) (flat_map line (tree.keys streams.rest))
    ∙ (λ i. begins i ++ sym (flat_map-append line numbers (tree.keys streams.rest)) i))

-- one line more of those of the numbers below one
pub numbers_written : (line : ℕ → List ℕ) (at : ℕ) (before after begun : List ℕ)
    → after ≡ before ++ line at
    → before ≡ begun ++ flat_map line (below at)
    → after ≡ begun ++ flat_map line (below (at + 1))
numbers_written line at before after begun written goes =
    let next : suc at ≡ at + 1 = omega arith in
    written
    ∙ ap (λ (text : List ℕ). text ++ line at) goes
    ∙ append_assoc begun (flat_map line (below at)) (line at)
    ∙ ap (λ (lines : List ℕ). begun ++ (flat_map line (below at) ++ lines)) (sym (append-nil (line at)))
    ∙ ap (λ (lines : List ℕ). begun ++ lines) (sym (flat_map-append line (below at) (at ∷ [])))
    ∙ ap (λ (n : ℕ). begun ++ flat_map line (below n)) next

-- a list of lines, with one line more of it written
pub line_written : {K : Type 0} (line : K → List ℕ) (keys : List K) (at : ℕ) (key : K) (before after whole : List ℕ) → at < length keys
    → after ≡ before ++ line (get_or keys at key)
    → before ++ flat_map line (drop at keys) ≡ whole
    → after ++ flat_map line (drop (at + 1) keys) ≡ whole
line_written line keys at key before after whole inside written goes =
    ap (λ (text : List ℕ). text ++ flat_map line (drop (at + 1) keys)) written
    ∙ append_assoc before (line (get_or keys at key)) (flat_map line (drop (at + 1) keys))
    ∙ sym (ap (λ ks. before ++ flat_map line ks) (drop_more keys at key inside)) ∙ goes

pub pairs_made : (pairs : Pairs) (notes : List ((ℕ × ℕ) × Flight)) (count : ℕ) (text : List ℕ)
    → count ≡ length pairs.order.items
    → text ≡ (codes "conv ip " ++ (decimal count ++ 10 ∷ [])) ++ flat_map (λ p. pair_line (pair_talk pairs p)) pairs.order.items
    → HasPairs notes pairs → text ≡ pairs_table notes
unfolding pairs_table
pairs_made pairs notes count text counted written has =
    made (codes "conv ip ") count pairs.order.items (pairs_in notes) (pair_talk pairs) (λ p. talk_of (of_key same_pair p notes)) (λ p. pair_line) text
    has.keys_are counted has.talks written

pub paths_made : (paths : Paths) (notes : List (List ℕ × ℕ)) (count : ℕ) (text : List ℕ)
    → count ≡ tree.btree_map_len paths.all
    → text ≡ (codes "phs " ++ (decimal count ++ 10 ∷ [])) ++ flat_map (λ k. path_line (string_bytes k) (tally_at paths (string_bytes k))) (tree.keys paths.all)
    → HasPaths notes paths → text ≡ paths_table notes
unfolding paths_table
paths_made paths notes count text counted written has =
    made (codes "phs ") count (map string_bytes (tree.keys paths.all)) (texts_in notes) (λ p. tally_at paths p) (λ p. sizes_tally (of_key bytes_eq p notes)) path_line text
    has.keys_are
    (counted ∙ sym (length-map paths.all.entries (λ (e : String Global × ℕ). e.0)) ∙ sym (length-map (tree.keys paths.all) string_bytes))
    has.tallies
    (written ∙ ap (λ (lines : List ℕ). (codes "phs " ++ (decimal count ++ 10 ∷ [])) ++ lines)
    (sym (flat_map-map (λ p. path_line p (tally_at paths p)) string_bytes (tree.keys paths.all))))
