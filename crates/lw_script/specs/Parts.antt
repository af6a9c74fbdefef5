-- The words of a script and what they stand for.
use Rattle.std.specs.Prelude.{ℕ, List, codes}
use Rattle.lw_base.specs.declared.limits.Limits.{Limits}
use Rattle.lw_script.specs.declared.parts.Call.{Call}
use Rattle.lw_script.specs.declared.parts.Call.TheVariants.{FeedAll, Stop}
use Rattle.lw_script.specs.declared.parts.Profile.{Profile}
use Rattle.lw_script.specs.declared.parts.Profile.TheVariants.{Default, Small, Wide}

-- the text of a call
abbrev pub call_text : Call → List ℕ
call_text FeedAll = codes "feed all"
call_text Stop = codes "stop"

-- the word of a profile
abbrev pub profile_word : Profile → List ℕ
profile_word Default = codes "default"
profile_word Small = codes "small"
profile_word Wide = codes "wide"

-- the sizes of a profile: pbufs of each kind, places of the two mailboxes, descriptors, octets of the receive
-- window, live connections, TCP ends and variables
abbrev pub limits_of : Profile → Limits
limits_of Default =
    record {
      ram = 256;
      pool = 256;
      rom = 16;
      reference = 64;
      mailbox = 8;
      tcpip = 64;
      descriptors = 32;
      window = 5840;
      live = 64;
      ends = 128;
      variables = 64;
    }
limits_of Small =
    record {
      ram = 8;
      pool = 4;
      rom = 4;
      reference = 4;
      mailbox = 2;
      tcpip = 4;
      descriptors = 8;
      window = 5840;
      live = 64;
      ends = 128;
      variables = 64;
    }
limits_of Wide =
    record {
      ram = 256;
      pool = 1024;
      rom = 16;
      reference = 64;
      mailbox = 8;
      tcpip = 64;
      descriptors = 32;
      window = 1048576;
      live = 64;
      ends = 128;
      variables = 64;
    }
