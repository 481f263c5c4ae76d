-- Demand 3: what a list of calls on two re-voiced tunes has in common, and what each tune's answers are. Assumes nothing.
use Rattle.std.specs.Prelude.{ℕ, ◌+◌, ◌*◌, ◌^◌, ◌≤◌, ◌<◌, ◌≡◌, Bool, not, List, map, ◌++◌, T, eqb, length, get_or, take, drop}
use Rattle.laws.specs.Masks.{bit_of}
use Rattle.tune.specs.Numbers.{little_at}
use Rattle.tune.specs.Opening.{blank_channel}
use Rattle.row_path.specs.Walk.{rows_left}
use Rattle.channel.specs.Opening.{opened_channel}
use Rattle.channel.specs.declared.state.Channel.{Channel}
use Rattle.section.specs.declared.state.State.{State}
use Rattle.section.specs.Tables.{Tables, Tune}
use Rattle.section.specs.Open.{open_rule}
use Rattle.section.specs.Records.{head_size, channel_size}
use Rattle.section.specs.Section.{Answer, Refused, Gave, joined}
use Rattle.sheet.specs.Strikes.{strikes_of}
use Rattle.sheet.specs.Listing.{chosen_of}
use Rattle.noninterference.specs.Revoiced.{Revoiced, Lent}
use Rattle.noninterference.specs.Calls.{Call, allowed, state_of, records_in, count_of, refusal_of, ending_of, answers_of, sizes_given, granted}
use Rattle.noninterference.specs.Machines.{opened, path_of, machine_records, machine_state}

-- of a record's bytes: the row head without its strike mask, bit k of the mask, channel k, and the chosen channels in the
-- order in which Strikes lists them
unfoldable pub head_in : List ℕ → List ℕ
head_in r = take 16 r ++ take 4 (drop 20 r)

unfoldable pub strike_in : ℕ → List ℕ → ℕ
strike_in k r = bit_of (little_at 4 r 16) k

unfoldable pub channel_in : ℕ → List ℕ → List ℕ
channel_in k r = take channel_size (drop (head_size + channel_size * k) r)

unfoldable pub list_in : (ℕ → Bool) → List ℕ → List ℕ
list_in chosen r = chosen_of chosen (strikes_of r)

-- what stands for a channel that isn't there
abbrev pub missing : Channel
missing = opened_channel blank_channel

-- channel k of a state
unfoldable pub channel_of : ℕ → State → Channel
channel_of k s = get_or s.channels k missing

-- the same row counts, endings and refusals, the same row heads (of the strike masks only bit k), and the same channel k
-- in records and state, for each chosen k; Strikes lists the chosen channels of each record in the same order; the path's
-- part of the state, which keeps the channels' last S infos, is the same
pub record Same (chosen : ℕ → Bool) (xs ys : List Answer) : Type 0 where
  pub refusals : map refusal_of xs ≡ map refusal_of ys
  pub counts : map count_of xs ≡ map count_of ys
  pub endings : map ending_of xs ≡ map ending_of ys
  pub heads : map (λ a. map head_in (records_in a)) xs ≡ map (λ a. map head_in (records_in a)) ys
  pub strikes : (k : ℕ) → k < 32 → T (chosen k) → map (λ a. map (strike_in k) (records_in a)) xs ≡ map (λ a. map (strike_in k) (records_in a)) ys
  pub lists : map (λ a. map (list_in chosen) (records_in a)) xs ≡ map (λ a. map (list_in chosen) (records_in a)) ys
  pub channels : (k : ℕ) → k < 32 → T (chosen k) → map (λ a. map (channel_in k) (records_in a)) xs ≡ map (λ a. map (channel_in k) (records_in a)) ys
  pub states : (k : ℕ) → k < 32 → T (chosen k) → map (λ a. channel_of k (state_of a)) xs ≡ map (λ a. channel_of k (state_of a)) ys
  pub paths : map (λ a. (state_of a).path) xs ≡ map (λ a. (state_of a).path) ys

-- c is the lesser of n and the rows that the path machine still has from s: the most that it has among the numbers up to n
pub record Lesser (t : Tables) (s : State) (n c : ℕ) : Type 0 where
  pub within : c ≤ n
  pub there : rows_left t.orders t.cells c s.path ≡ c
  pub most : (m : ℕ) → m ≤ n → rows_left t.orders t.cells m s.path ≡ m → m ≤ c

-- a call where the calls before it were let n rows: refused exactly where rule 12 holds, as 12; any other gives as many
-- rows as its size or as the path machine still has, whichever is less, the machines' next ones, and their ending and state
pub record AtCall (u : Tune) (n : ℕ) (c : Call) (a : Answer) : Type 0 where
  pub refusal : T (not (allowed c)) → a ≡ Refused 12 (machine_state u n)
  pub gift : T (allowed c) → a ≡ Gave (drop (length (machine_records u n)) (machine_records u (n + c.size))) (path_of u (n + c.size)).path.ended (machine_state u (n + c.size))
  pub count : T (allowed c) → Lesser u.tables (machine_state u n) c.size (count_of a)

-- the answers are the machines': one for each call, and the records joined are the first that the machines give, each once
pub record Faithful (u : Tune) (calls : List Call) (xs : List Answer) : Type 0 where
  pub number : length xs ≡ length calls
  pub each : (i : ℕ) → i < length calls → AtCall u (granted (take i calls)) (get_or calls i (record { size = 0; room = 0 })) (get_or xs i (Refused 0 (opened u)))
  pub records : joined (map records_in xs) ≡ machine_records u (granted calls)

pub record Kept (chosen : ℕ → Bool) (A B : Tune) (calls : List Call) : Type 0 where
  pub same : Same chosen (answers_of A.tables (opened A) calls) (answers_of B.tables (opened B) calls)
  pub first : Faithful A calls (answers_of A.tables (opened A) calls)
  pub second : Faithful B calls (answers_of B.tables (opened B) calls)

-- demand 3 for a set of channels
abbrev pub ChannelsKept : (ℕ → Bool) → Type 0
ChannelsKept chosen =
    (A B : Tune) (calls : List Call) → Lent A → Lent B → open_rule A.tables A.opening ≡ 0 → open_rule B.tables B.opening ≡ 0
    → Revoiced chosen A B → sizes_given calls (answers_of A.tables (opened A) calls) ≤ 2 ^ 32 → Kept chosen A B calls

-- demand 3: channel k
abbrev pub ChannelKept : ℕ → Type 0
ChannelKept k = ChannelsKept (eqb k)
